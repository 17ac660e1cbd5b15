-- What was put somewhere was so ever after.
use Rattle.std.proofs.Common.{◌∷◌, ◌++◌, ap, sym, ◌∙◌}
use Rattle.std.proofs.lemmas.List.{append_assoc}
use Rattle.vx_record.specs.Places.{all_puts, puts}
use Rattle.vx_counts.specs.Laws.{PutNow, PutStays}

pub put_stays : PutStays
put_stays e h p copies was =
    (was.0, was.1 ++ puts e, ap (λ xs. xs ++ puts e) was.2 ∙ append_assoc was.0 (record { place = p; copies = copies } ∷ was.1) (puts e))

pub put_now : PutNow
put_now e h p copies before after is =
    (all_puts h ++ before, after, ap (λ xs. all_puts h ++ xs) is ∙ sym (append_assoc (all_puts h) before (record { place = p; copies = copies } ∷ after)))
