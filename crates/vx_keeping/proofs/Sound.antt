-- What a host puts out, as a record tells it.
use Rattle.std.proofs.Common.{◌≡◌, suc, ◌^◌, Bool, true, false, not, ◌&&◌, List, [], ◌∷◌, refl, ap₂, arith}
use Rattle.std.specs.Prelude.{◌≢◌, All, nat_lt}
use Rattle.std.specs.List.{list_all}
use Rattle.std.proofs.lemmas.Bool.Decides.{nat_tests}
use Rattle.vx_value.specs.Texts.{is_empty}
use Rattle.vx_ledger.specs.Copies.{Copy, numbers_of}
use Rattle.vx_transform.specs.declared.output.Output.{Output}
use Rattle.vx_record.specs.Transforms.{is_sound_output}
use Rattle.vx_keeping.specs.Given.{IsSound}
use Rattle.vx_keeping.specs.Answers.{notes_of}

pub none_sound : All IsSound []
none_sound k d l = absurd (omega (arith, l))

pub rest_sound : (o : Output) (os : List Output) → All IsSound (o ∷ os) → All IsSound os
rest_sound o os sound k d l = sound (suc k) d (omega (arith, l))

filled : (cs : List Copy) → cs ≢ [] → is_empty (numbers_of cs) ≡ false
filled [] some = absurd (some refl)
filled (c ∷ cs) some = refl

one_noted : (o : Output) → IsSound o → (not (is_empty (numbers_of o.parcel.finalizers)) && nat_lt 0 o.ports && nat_lt o.ports (2 ^ 65)) ≡ true
one_noted o sound =
    let a = filled o.parcel.finalizers sound.filled in
    let b : nat_lt 0 o.ports ≡ true = (let l = sound.some in grind (arith, nat_tests, l)) in
    let c : nat_lt o.ports (2 ^ 65) ≡ true = (let l = sound.below in grind (arith, nat_tests, l)) in
    rw (a, b, c) refl

pub sound_noted : (os : List Output) → All IsSound os → list_all is_sound_output (notes_of os) ≡ true
sound_noted [] sound = refl
sound_noted (o ∷ os) sound =
    ap₂ (λ (a b : Bool). a && b) (one_noted o (sound 0 o (omega arith))) (sound_noted os (rest_sound o os sound))
