-- A list of words is at most one command.
use Rattle.std.proofs.Common.{◌≡◌, ◌∙◌, sym, ap, subst, List, ◌∷◌, codes}
use Rattle.std.proofs.lemmas.Option.{same_Some}
use Rattle.vx_value.specs.Texts.{ByteString}
use Rattle.vx_cli.specs.Commands.{HasValue, IsCommand, IsNoCommand, IsValidate}
use Rattle.vx_cli.specs.Grammars.{validate_grammar}
use Rattle.vx_cli.specs.declared.command.Command.{Command}
use Rattle.vx_cli.specs.declared.command.Command.TheVariants.{Run, Validate}

-- the words behind the first are no others
same_rest : (w : ByteString) (s t : List ByteString) → w ∷ s ≡ w ∷ t → s ≡ t
same_rest w s t e = cc

-- the file to judge is no other
same_path : (words : List ByteString) (a b : ByteString) → IsValidate words a → IsValidate words b → a ≡ b
same_path words a b p q =
    let rest : p.rest ≡ q.rest = same_rest _ _ _ (sym p.named ∙ q.named) in
    let path = subst (λ (rest : List ByteString). HasValue validate_grammar rest (codes "path") a) rest p.path in
    same_Some a b (sym path ∙ q.path)

pub one_command : (words : List ByteString) (a b : Command) → IsCommand words a → IsCommand words b → a ≡ b
one_command words (Run a m s) (Run b n t) p q =
    let file : a ≡ b = same_Some a b (sym p.0.config ∙ q.0.config) in
    let once : m ≡ n = sym p.1.0 ∙ q.1.0 in
    let asked : s ≡ t = sym p.1.1 ∙ q.1.1 in cc
one_command words (Run a m s) (Validate b) p q = absurd (p.0.unnamed q.rest q.named)
one_command words (Validate a) (Run b n t) p q = absurd (q.0.unnamed p.rest p.named)
one_command words (Validate a) (Validate b) p q = ap Validate (same_path words a b p q)

-- what is in no grammar is no command
pub never_both : (words : List ByteString) (command : Command) → IsNoCommand words → IsCommand words command → ⊥
never_both words (Run file once stats) outside is = outside.run is.0.unnamed is.0.taken
never_both words (Validate file) outside is = outside.validate is.rest is.named is.taken
