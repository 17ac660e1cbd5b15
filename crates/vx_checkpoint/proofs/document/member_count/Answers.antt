use Rattle.std.proofs.Common.{◌∙◌, sym, ap}
use Rattle.serde_json.proofs.Views.{members_len-members_view}
use Rattle.vx_checkpoint.specs.Document.{members_in}
use Rattle.vx_checkpoint.proofs.document.member_count.Goals as goal

pub returns-in-Some : goal.returns-in-Some
returns-in-Some c =
    c.len.ensures.len ∙ sym (members_len-members_view c.in-Some.map.now.entries) ∙ ap members_in c.in-Some.ensures
