-- Each component of a plan that was read works with a port, judges event by event, merges, makes its lines itself or writes nothing.
use Rattle.std.proofs.Common.{◌≡◌, ℕ, ◌+◌, ◌≤◌, Bool, true, false, List, [], ◌∷◌, ◌++◌, map, length, refl, ◌∙◌, ap, arith}
use Rattle.std.specs.Prelude.{◌&&◌, ◌||◌, not, nat_le, codes}
use Rattle.std.specs.List.{list_all}
use Rattle.std.proofs.lemmas.Bool.{and_parts}
use Rattle.std.proofs.lemmas.Bool.Decides.{nat_tests}
use Rattle.std.proofs.lemmas.List.{length-map, length-append}
use Rattle.vx_plan.specs.declared.class.Class.{Class}
use Rattle.vx_plan.specs.declared.class.Class.TheVariants.{Source, Transform, Sink}
use Rattle.vx_plan.specs.declared.component.Component.{Component}
use Rattle.vx_plan.specs.declared.route.Route.{Route as Way}
use Rattle.vx_plan.specs.declared.settings.Settings.{Settings}
use Rattle.vx_plan.specs.declared.settings.Settings.TheVariants as settings
use Rattle.vx_plan.specs.Components.{is_source, is_transform, is_sink, port_names}
use Rattle.vx_plan.specs.Options.{has_device, transform_ports}
use Rattle.vx_record.specs.Judges.{is_judging}
use Rattle.vx_sourcecore.specs.Lines.{is_generating, is_blackhole}
use Rattle.vx_tasks.specs.Joining.{is_joining}
use Rattle.vx_ready.specs.Asking.{has_few_ports, is_judge, is_merger, is_generator, is_blackhole_sink}
use Rattle.vx_hub.specs.Making.{is_served, all_served}
use Rattle.vx_reading.specs.Made.{is_ported, is_picking, is_merging, is_hosted, is_generating as read_generating, is_blackhole as read_blackhole, is_made}

le_test : (m n : ℕ) → m ≤ n → nat_le m n ≡ true
le_test m n l = grind (arith, nat_tests)

-- what is picked by so is judged event by event, without a device, and put out on few ports
picking_judges : (s : Settings) → is_picking s ≡ true → (is_judging s && not (has_device s) && nat_le (length (transform_ports s)) 65) ≡ true
picking_judges (settings.Filter condition) is = refl
picking_judges (settings.Route ways reroute) is =
    let names = map (λ (way : Way). way.name) ways in
    let joined : length (names ++ codes "_unmatched" ∷ []) ≡ length names + 1 = length-append names (codes "_unmatched" ∷ []) in
    let mapped : length names ≡ length ways = length-map ways (λ (way : Way). way.name) in
    let few : length ways ≤ 64 = grind (arith, nat_tests, is) in
    let all : length (names ++ codes "_unmatched" ∷ []) ≤ 65 = omega (arith, joined, mapped, few) in
    le_test (length (names ++ codes "_unmatched" ∷ [])) 65 all
picking_judges (settings.Sample rate exclude) is = refl
picking_judges (settings.Dedupe fields most) is = refl
picking_judges other is = cc

-- the ports of a transform are those of its options
judge_of : (c : Component) (class : Class) → c.class ≡ class → is_transform c ≡ true → is_picking c.settings ≡ true → is_judge c ≡ true
judge_of c Transform of transform picking =
    let rest = picking_judges c.settings picking in
    let names : port_names c ≡ transform_ports c.settings = ap (λ (k : Class). elim k [ Source ↦ [] ∷ [] | Transform ↦ transform_ports c.settings | Sink ↦ [] ]) of in
    ap (λ (b : Bool). b && is_judging c.settings && not (has_device c.settings) && has_few_ports c) transform
    ∙ ap (λ (ns : List _). is_judging c.settings && not (has_device c.settings) && nat_le (length ns) 65) names ∙ rest
judge_of c Source of transform picking = cc
judge_of c Sink of transform picking = cc

-- what merges so joins, without a device, and is put out on one port
merging_joins : (s : Settings) → is_merging s ≡ true → (is_joining s && not (has_device s) && nat_le (length (transform_ports s)) 65) ≡ true
merging_joins (settings.Reduce group_by starts_when ends_when expire flush strategies) is = refl
merging_joins other is = cc

-- and so does what is handed in
hosted_joins : (s : Settings) → is_hosted s ≡ true → (is_joining s && not (has_device s) && nat_le (length (transform_ports s)) 65) ≡ true
hosted_joins settings.Host is = refl
hosted_joins other is = cc

merger_of : (c : Component) (class : Class) → c.class ≡ class → is_transform c ≡ true → (is_joining c.settings && not (has_device c.settings) && nat_le (length (transform_ports c.settings)) 65) ≡ true → is_merger c ≡ true
merger_of c Transform of transform rest =
    let names : port_names c ≡ transform_ports c.settings = ap (λ (k : Class). elim k [ Source ↦ [] ∷ [] | Transform ↦ transform_ports c.settings | Sink ↦ [] ]) of in
    ap (λ (b : Bool). b && is_joining c.settings && not (has_device c.settings) && has_few_ports c) transform
    ∙ ap (λ (ns : List _). is_joining c.settings && not (has_device c.settings) && nat_le (length ns) 65) names ∙ rest
merger_of c Source of transform rest = cc
merger_of c Sink of transform rest = cc

-- one fact of six is also one of five others, if each is
either : (b d : Bool) → d ≡ true → (b || d) ≡ true
either true d is = refl
either false d is = is

first : (b d : Bool) → b ≡ true → (b || d) ≡ true
first b d is = ap (λ (v : Bool). v || d) is

one_of : (a b m n c d y z w v : Bool) → (b ≡ true → y ≡ true) → (m ≡ true → v ≡ true) → (n ≡ true → v ≡ true) → (c ≡ true → z ≡ true) → (d ≡ true → w ≡ true) →
    (a || b || m || n || c || d) ≡ true → (a || y || z || w || v) ≡ true
one_of true b m n c d y z w v f k l g h is = refl
one_of false true m n c d y z w v f k l g h is = first (y || z || w) v (first (y || z) w (first y z (f refl)))
one_of false false true n c d y z w v f k l g h is = either (y || z || w) v (k refl)
one_of false false false true c d y z w v f k l g h is = either (y || z || w) v (l refl)
one_of false false false false true d y z w v f k l g h is = first (y || z || w) v (first (y || z) w (either y z (g refl)))
one_of false false false false false d y z w v f k l g h is = first (y || z || w) v (either (y || z) w (h is))

-- options that were read are those of a source that makes its lines, or of a sink that writes nothing
generating : (s : Settings) → read_generating s ≡ true → is_generating s ≡ true
generating (settings.DemoLogs demo interval) is = is
generating other is = cc

blackhole : (s : Settings) → read_blackhole s ≡ true → is_blackhole s ≡ true
blackhole (settings.Blackhole seconds sink) is = refl
blackhole other is = cc

made_serves : (c : Component) → is_made c ≡ true → is_served c ≡ true
made_serves c made =
    one_of (is_ported c) (is_transform c && is_picking c.settings) (is_transform c && is_merging c.settings) (is_transform c && is_hosted c.settings) (is_source c && read_generating c.settings) (is_sink c && read_blackhole c.settings)
    (is_judge c) (is_generator c) (is_blackhole_sink c) (is_merger c)
    (λ is. let both = and_parts (is_transform c) (is_picking c.settings) is in judge_of c c.class refl both.0 both.1)
    (λ is. let both = and_parts (is_transform c) (is_merging c.settings) is in merger_of c c.class refl both.0 (merging_joins c.settings both.1))
    (λ is. let both = and_parts (is_transform c) (is_hosted c.settings) is in merger_of c c.class refl both.0 (hosted_joins c.settings both.1))
    (λ is. let both = and_parts (is_source c) (read_generating c.settings) is in ap (λ (b : Bool). b && is_generating c.settings) both.0 ∙ generating c.settings both.1)
    (λ is. let both = and_parts (is_sink c) (read_blackhole c.settings) is in ap (λ (b : Bool). b && is_blackhole c.settings) both.0 ∙ blackhole c.settings both.1)
    made

-- so all are served
pub made_served : (components : List Component) → list_all is_made components ≡ true → all_served components ≡ true
made_served [] all = refl
made_served (c ∷ rest) all =
    let both = and_parts (is_made c) (list_all is_made rest) all in
    ap (λ (b : Bool). b && all_served rest) (made_serves c both.0) ∙ made_served rest both.1
