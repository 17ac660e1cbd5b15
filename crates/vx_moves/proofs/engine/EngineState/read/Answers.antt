use Rattle.std.proofs.Common.{◌≡◌, ◌∷◌, Option, Some, None, IfSome, length, refl}
use Rattle.std.specs.Prelude.{IsSomeAnd, not, is_some, is_none}
use Rattle.std.specs.Option.{option_map}
use Rattle.vx_record.specs.declared.entry.Entry.TheVariants.{Read}
use Rattle.vx_record.specs.Records.{capped}
use Rattle.vx_record.specs.Reads.{bytes_of, is_end}
use Rattle.vx_sourcecore.specs.declared.source.Cut.{Cut}
use Rattle.vx_sourcecore.specs.declared.new_lines.NewLines.{NewLines}
use Rattle.vx_sourcecore.specs.NewLines.{AreNew}
use Rattle.vx_sourcecore.specs.Turns.{Reading, cut_of, reading_of}
use Rattle.vx_tasks.specs.Out.{read_entry}
use Rattle.vx_moves.specs.Reading.{MayNoteRead}
use Rattle.vx_moves.specs.Stands.{Steps}
use Rattle.vx_moves.proofs.Stepping.{plain_step}
use Rattle.vx_moves.proofs.engine.EngineState.read.Goals as goal

-- what is said of the lines of a cut, and that they were told
lines_said : (F : NewLines → Type 0) (cut : Option Cut) → IfSome cut (λ cut. F cut.new) → IfSome (option_map (λ (cut : Cut). cut.new) cut) F
lines_said F None said = tt
lines_said F (Some cut) said = said

unobserved : (cut : Option Cut) → not (is_some (option_map (λ (cut : Cut). cut.new) cut)) ≡ is_none cut
unobserved None = refl
unobserved (Some cut) = refl

pub returns-clause-steps : goal.returns-clause-steps
returns-clause-steps g c =
    go (reading_of c.args.turned.now) c.requires.may c.note.ensures c.bytes_in-bytes.ensures c.ends_all-all.ensures
  where
    go : (o : Option Reading) → IsSomeAnd o (MayNoteRead c.args.self.now.log c.args.i (cut_of c.args.turned.now)) →
        c.note.new.self ≡ read_entry c.args.i o ∷ c.args.self.now.log → IfSome o (λ r. c.bytes_in-bytes.result ≡ capped (length (bytes_of r.took))) →
        IfSome o (λ r. c.ends_all-all.result ≡ is_end r.took) →
        IsSomeAnd o (λ r. Steps g.P.Port.observed (Read c.args.i r.stream r.took) c.args.self.now
        (record c.args.self.now { states = c.read.new.self; log = c.note.new.self }))
    go None may noted bytes all = absurd may
    go (Some r) may noted bytes all =
        let new = lines_said (AreNew c.args.self.now.log c.args.i r.stream r.took) (cut_of c.args.turned.now) may.lines in
        plain_step c.requires.stands (assumption) (λ j joins. tt) may.row may.left noted
        (c.read.ensures.knows c.args.self.now.log r.stream r.took bytes all (rw c.new_in-new.ensures new) c.requires.stands.states) c.read.ensures.size

pub returns-clause-leaves : goal.returns-clause-leaves
returns-clause-leaves g c =
    let states = rw (c.new_in-new.ensures, unobserved (cut_of c.args.turned.now)) at c.read.ensures.stays in
    record { states = states; capacities = λ j. (refl, refl); run = refl }
