-- When a port tells what a record has of its instance.
use Rattle.std.specs.Prelude.{◌≡◌, ℕ, ◌<◌, ◌≤◌, ◌++◌, [], length, take, Bool, true, Option, Some, None, IfSome, if◌then◌else◌}
use Rattle.vx_value.specs.Texts.{ByteString}
use Rattle.vx_ends.specs.Observation.{Observation, Fits}
use Rattle.vx_ends.specs.declared.port_spec.PortSpec.{PortSpec}
use Rattle.vx_plan.specs.Ports.{port_spec}
use Rattle.vx_record.specs.Records.{Record, capped}
use Rattle.vx_record.specs.Installs.{Wiring, wiring, device_at}
use Rattle.vx_record.specs.Reads.{taken, ended_streams, all_ended}
use Rattle.vx_record.specs.Encoding.{given}
use Rattle.vx_record.specs.Confirms.{confirmed}
use Rattle.vx_record.specs.PortCounts.{fault_count, refusal_count, idle_count, finish_count, confirm_count}
use Rattle.vx_sourcecore.specs.Turns.{NothingLeft}

-- what a port is made for, by how its instance is wired
abbrev pub spec_by : Option Wiring → Option PortSpec
spec_by None = None
spec_by (Some w) = port_spec w.plan w.name w.once

-- what the port of an instance is made for: that of its component, as the Install says that gave the instance work
abbrev pub spec_of : Record → ℕ → Option PortSpec
spec_of h i = spec_by (wiring h i)

-- a port counted at least so many, and just so many where its counts are exact
pub record HasCounted (exact : Bool) (count : ℕ) (observed : ℕ) : Type 0 where
  pub least : capped count ≤ observed
  pub exactly : exact ≡ true → observed ≡ capped count

-- what a record has of an instance's port; of an instance without one it has nothing
abbrev pub of_port : {X : Type 0} → X → (Record → ℕ → X) → Record → ℕ → X
of_port none f h i = if device_at h i then f h i else none

-- what a port tells is what the record has of its instance: bytes, confirmed positions and ends, what it is made for, or that there
-- is none, and at least as many failures, refusals, idle takes, finishes and confirms, and not one more where its counts are exact
pub record IsObserved (observed : Observation) (h : Record) (i : ℕ) : Type 0 where
  pub taken : (stream : ℕ) → IfSome (observed.taken stream) (λ bytes. bytes ≡ of_port [] (λ k j. taken k j stream) h i)
  pub given : IfSome observed.given (λ bytes. bytes ≡ given h i)
  pub spec : Fits (spec_of h i) observed.spec
  pub confirmed : IfSome observed.confirmed (λ positions. positions ≡ confirmed h i)
  pub ended : observed.ended ≡ ended_streams h i
  pub over : device_at h i ≡ true → all_ended h i ≡ true → NothingLeft observed
  pub faults : HasCounted observed.exact (fault_count h i) observed.faults
  pub refusals : HasCounted observed.exact (refusal_count h i) observed.refusals
  pub idles : HasCounted observed.exact (idle_count h i) observed.idles
  pub finishes : HasCounted observed.exact (of_port 0 finish_count h i) observed.finishes
  pub confirms : HasCounted observed.exact (confirm_count h i) observed.confirms

-- the same, but for the bytes that were given, of which the record doesn't have all
abbrev pub IsObservedButGiven : Observation → Record → ℕ → Type 0
IsObservedButGiven observed h i = IsObserved (record observed { given = None }) h i

-- where what was given is told, it goes beyond what was given before by the first `sent` bytes of others, at least one
pub record GoesBeyond (now : Option ByteString) (before all : ByteString) : Type 0 where
  pub sent : ℕ
  pub some : 0 < sent
  pub within : sent ≤ length all
  pub are : IfSome now (λ bytes. bytes ≡ before ++ take sent all)

-- so a port goes beyond a record that has none of the last bytes that it was given, and else tells what the record has
pub record IsObservedBeyond (observed : Observation) (h : Record) (i : ℕ) (all : ByteString) : Type 0 where
  pub rest : IsObservedButGiven observed h i
  pub beyond : GoesBeyond observed.given (given h i) all
