-- What a port tells behind two gives.
use Rattle.std.proofs.Common.{refl, ◌∙◌}
use Rattle.vx_ends.specs.Observation.{Observation, SameBytes}

-- the second leaves the rest as the first did
pub same_on : (a b c : Observation) → SameBytes (record a { given = b.given }) b → SameBytes (record b { given = c.given }) c → SameBytes (record a { given = c.given }) c
same_on a b c g h = record {
  taken = h.taken ∙ g.taken;
  left = h.left ∙ g.left;
  given = refl;
  confirmed = h.confirmed ∙ g.confirmed;
  spec = h.spec ∙ g.spec;
  ended = h.ended ∙ g.ended;
  over = h.over ∙ g.over;
}
