use Rattle.vx_keeping.specs.Kept.{copies_made}
use Rattle.vx_keeping.specs.Making.{made_of}
use Rattle.vx_keeping.proofs.Storing.{has_none, no_copy}
use Rattle.vx_keeping.proofs.store.Store.end.Goals as goal

pub end_parcels-requires : goal.end_parcels-requires
end_parcels-requires c = (has_none c.args.self c.requires).taken

pub end_outputs-requires : goal.end_outputs-requires
end_outputs-requires c = (has_none c.args.self c.requires).ready

pub end-requires : goal.end-requires
end-requires c = (has_none c.args.self c.requires).shelf

pub end_copies-requires : goal.end_copies-requires
end_copies-requires c = (has_none c.args.self c.requires).discarded

pub unreachable-requires : goal.unreachable-requires
unreachable-requires c = no_copy (copies_made (made_of c.args.self.maker)) (copies_made (made_of c.surrender.new.self)) c.in-Some.field-0 c.in-Some.ensures.some (has_none c.args.self c.requires).maker
