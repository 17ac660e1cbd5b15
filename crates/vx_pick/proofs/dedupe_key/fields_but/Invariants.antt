use Rattle.std.proofs.Common.{◌≡◌, not, map, take}
use Rattle.std.specs.Prelude.{filter}
use Rattle.std.specs.List.{list_any}
use Rattle.vx_value.specs.Texts.{same_text}
use Rattle.vx_value.specs.Datum.{NamedDatum}
use Rattle.vx_value.specs.Values.{named_datum}
use Rattle.vx_pick.proofs.dedupe_key.fields_but.Given as goal

-- those are kept that are of the fields so far, but for the names
abbrev pub invariant-loop-field : goal.invariant-loop-field
invariant-loop-field l =
    l.kept ≡ filter (λ (f : NamedDatum). not (list_any (same_text f.name) l.names)) (map named_datum (take l.field-index l.field-items))
