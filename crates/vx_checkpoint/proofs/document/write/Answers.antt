use Rattle.std.proofs.Common.{◌≡◌, ◌∙◌, ◌++◌, ◌∷◌, [], ap, string_bytes, Some}
use Rattle.std.proofs.lemmas.Str.{IsUtf8-string_bytes}
use Rattle.serde_json.specs.Read.{read}
use Rattle.serde_json.specs.Written.{compact_text}
use Rattle.vx_checkpoint.specs.Document.{Mark, document_of}
use Rattle.vx_checkpoint.proofs.Marks.{written_says, says_one}
use Rattle.vx_checkpoint.proofs.document.write.Goals as goal

pub returns-clause-reads_back : goal.returns-clause-reads_back
returns-clause-reads_back c =
    let text = string_bytes c.in_ok-text.text in
    let whole : c.push_slice.new.self ≡ text ++ 10 ∷ [] = cc (c.in_ok-push_slice.ensures.ok, c.in_ok-bytes.ensures, c.as_bytes.ensures.value) in
    let compact : text ≡ compact_text (document_of c.args.checkpoint.now.path c.args.checkpoint.now.offset) =
    c.in_ok-text.ensures.compact ∙ ap (λ p. compact_text (document_of p c.args.checkpoint.now.offset)) c.as_str.ensures in
    let back : read text ≡ Some (document_of c.args.checkpoint.now.path c.args.checkpoint.now.offset) =
    c.in_ok-text.ensures.read ∙ ap (λ p. Some (document_of p c.args.checkpoint.now.offset)) c.as_str.ensures in
    written_says c.push_slice.new.self text c.args.checkpoint.now.path c.args.checkpoint.now.offset whole compact
    (IsUtf8-string_bytes c.in_ok-text.text) back c.requires

pub returns-clause-alone : goal.returns-clause-alone
returns-clause-alone c =
    λ other said. says_one c.push_slice.new.self (Mark c.args.checkpoint.now.path c.args.checkpoint.now.offset) other
    (returns-clause-reads_back c) said
