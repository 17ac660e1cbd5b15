-- The first configuration is read: it has a plan, whatever the environment.
use Rattle.std.proofs.Common.{◌≡◌, Bool, List, [], Ok, refl, sym, ◌∙◌, ap, subst, inl}
use Rattle.std.specs.Prelude.{◌++◌}
use Rattle.std.specs.Str.{IsUtf8}
use Rattle.std.proofs.lemmas.List.{append-nil}
use Rattle.vx_value.specs.Texts.{ByteString}
use Rattle.vx_value.specs.declared.variable.Variable.{Variable}
use Rattle.toml.specs.Data.{table}
use Rattle.toml.specs.Parse.{parse_document}
use Rattle.vx_graph.specs.Faults.{IsAccepted}
use Rattle.vx_graph.specs.Order.{in_order}
use Rattle.vx_plan.specs.declared.plan.Plan.{Plan}
use Rattle.vx_plan.specs.First.{first_configuration, first_plan}
use Rattle.vx_plan.specs.Graphs.{nodes_of}
use Rattle.vx_plan.proofs.FirstPlan.{first_stands}
use Rattle.vx_reading.specs.declared.diagnostic.Diagnostic.{Diagnostic}
use Rattle.vx_reading.specs.Conditions.{RefusesRightly, all_conditions, refusals}
use Rattle.vx_reading.specs.Diagnostics.{diagnostics}
use Rattle.vx_reading.specs.Plans.{plan_of}
use Rattle.vx_reading.specs.Reading.{IsReadingBy}
use Rattle.vx_reading.proofs.Examples.{first_members, first_parsed, first_replaced, first_whole, first_faultless, first_planned}

-- it is ASCII
first_utf8 : IsUtf8 first_configuration
unfolding lib.Utf8.encode
first_utf8 = (first_configuration, (refl, refl))

-- and has no condition
unconditional : all_conditions (plan_of (table first_members)).components ≡ []
unconditional = ap (λ (plan : Plan). all_conditions plan.components) first_planned

unrefused : (refuses : ByteString → Bool) → refusals refuses (plan_of (table first_members)).components ≡ []
unrefused refuses = ap (λ (plan : Plan). refusals refuses plan.components) first_planned

pub first_is_read : (refuses : ByteString → Bool) (environment : List Variable) → IsReadingBy refuses environment first_configuration (Ok first_plan)
first_is_read refuses environment = inl (
  first_utf8,
  record {
    root = table first_members;
    document = record {
      whole = first_whole environment;
      members = first_members;
      parsed = ap parse_document (first_replaced environment) ∙ first_parsed;
      same = refl;
    };
    rightly = record {
      right = λ some. subst (λ (texts : List ByteString). RefusesRightly refuses texts) (sym unconditional) (record { refused = tt; taken = tt });
      judged = record {
        faultless = ap (λ (more : List Diagnostic). diagnostics (table first_members) ++ more) (unrefused refuses) ∙ append-nil (diagnostics (table first_members)) ∙ first_faultless;
        same = sym first_planned;
        accepted = subst (λ (plan : Plan). IsAccepted (in_order (nodes_of plan))) (sym first_planned) first_stands.accepted;
      };
    };
  },
)
