-- The object that bytes are is the event that the grammar gives them.
use Rattle.std.proofs.Common.{◌≡◌, ◌≢◌, ℕ, zero, suc, ◌+◌, ◌<◌, ◌≤◌, Bool, true, false, cond, nat_le, Option, Some, None, Result, Ok, Err, IfOk, IfErr, List, [], ◌∷◌, length, take, drop, get_or, refl, sym, ◌∙◌, ap, subst, arith}
use Rattle.std.proofs.lemmas.Bool.Decides.{nat_tests}
use Rattle.std.proofs.Math.Seq.{drop-cons}
use Rattle.vx_value.specs.Texts.{ByteString}
use Rattle.vx_value.specs.Datum.{Datum, Fields, NamedDatum, named_of, named_list}
use Rattle.vx_value.specs.declared.event.Event.{Event}
use Rattle.vx_value.proofs.Steps.{named_list-named_of}
use Rattle.vx_json.specs.Machine.{Mode, Frame, State, AtValue, step, carry, outcome, height}
use Rattle.vx_json.specs.Faults.{Inside, Outside, inside_after, count_after, open_behind, open_levels, StaysShallow, IsDeep, IsNoObject, IsValue, IsEvent, IsFault}
use Rattle.vx_json.specs.Objects.{stays_shallow, object_fields, object_of}
use Rattle.vx_json.specs.declared.json_fault.JsonFault.{JsonFault}
use Rattle.vx_json.specs.declared.json_fault.JsonFault.TheVariants as fault
use Rattle.vx_json.proofs.Choices.{both_true, and_true, le_of}
use Rattle.vx_json.proofs.Completeness.{text-outcome}
use Rattle.vx_json.proofs.Levels.{stands}
use Rattle.vx_json.proofs.Readings.{HasRead, read-none, leads-on, read-more, read-finished, event-of-value}
use Rattle.vx_json.proofs.WrittenTexts.{named-back}

-- ---- the test on levels
le-true : (n : ℕ) → n ≤ 32 → nat_le n 32 ≡ true
le-true n h = grind (arith, nat_tests)

shallow-take : (w : ByteString) (inside : Inside) (n k : ℕ) → stays_shallow inside n w ≡ true → open_behind inside n (take k w) ≤ 32
shallow-take [] inside n zero h = le_of n 32 h
shallow-take [] inside n (suc k) h = le_of n 32 h
shallow-take (b ∷ w) inside n zero h = le_of n 32 (both_true _ _ h).0
shallow-take (b ∷ w) inside n (suc k) h = shallow-take w (inside_after inside b) (count_after inside n b) k (both_true _ _ h).1

shallow-test : (w : ByteString) (inside : Inside) (n : ℕ) → ((k : ℕ) → k ≤ length w → open_behind inside n (take k w) ≤ 32) → stays_shallow inside n w ≡ true
shallow-test [] inside n h = le-true n (h 0 (omega arith))
shallow-test (b ∷ w) inside n h = and_true _ _ (le-true n (h 0 (omega arith))) (shallow-test w (inside_after inside b) (count_after inside n b) (λ k l. h (suc k) (omega arith)))

-- ---- what a reader finds in bytes that stay shallow
low-next : (bytes : ByteString) (i b : ℕ) (m : Mode) (st : List Frame) (s : State) → i < length bytes → get_or bytes i 0 ≡ b → HasRead bytes i m st → StaysShallow bytes (length bytes) → Some s ≡ step m st b → height s.mode s.stack ≤ 32
low-next bytes i b m st s l e h low k =
    let count : height s.mode s.stack ≡ open_levels (take (i + 1) bytes) = (stands (take (i + 1) bytes) s (leads-on bytes i b m s.mode st s.stack l e h k)).count in
    omega (arith, count, low (i + 1) (omega arith))

-- the byte that comes next, and what is behind it
byte-next : (bytes : ByteString) (i b : ℕ) (w : ByteString) → drop i bytes ≡ b ∷ w → i < length bytes → (get_or bytes i 0 ≡ b) × (drop (i + 1) bytes ≡ w)
byte-next bytes i b w e l =
    let both : get_or bytes i 0 ∷ drop (suc i) bytes ≡ b ∷ w = sym (drop-cons bytes i 0 l) ∙ e in
    let place : i + 1 ≡ suc i = omega arith in
    let first : get_or bytes i 0 ≡ b = cc in
    let rest : drop (suc i) bytes ≡ w = cc in (first, ap (λ j. drop j bytes) place ∙ rest)

read-through : (w bytes : ByteString) (i : ℕ) (m : Mode) (st : List Frame) (v : Datum) → drop i bytes ≡ w → i + length w ≡ length bytes → HasRead bytes i m st → StaysShallow bytes (length bytes) → outcome m st w ≡ Some v → IsValue bytes v
read-through [] bytes i m st v e l h low o = read-finished bytes i m st v (omega arith) h o
read-through (b ∷ w) bytes i m st v e l h low o =
    let within : i < length bytes = omega arith in
    let next = byte-next bytes i b w e within in
    onward (step m st b) refl within next.0 (λ n su k. read-through w bytes (i + 1) n su v next.1 (omega arith) k low) o
  where
    onward : (t : Option State) → t ≡ step m st b → i < length bytes → get_or bytes i 0 ≡ b → ((n : Mode) (su : List Frame) → HasRead bytes (i + 1) n su → outcome n su w ≡ Some v → IsValue bytes v) → carry t (λ n su. outcome n su w) ≡ Some v → IsValue bytes v
    onward None k within here ih c = cc
    onward (Some s) k within here ih c = ih s.mode s.stack (read-more bytes i b m s.mode st s.stack within here h k (low-next bytes i b m st s within here h low k)) c

-- ---- a value that is an object
object-value : (o : Option Datum) (fields : List NamedDatum) → object_fields o ≡ Some fields → o ≡ Some (Fields (named_of fields))
object-value (Some (Fields ns)) fields h = let e : named_list ns ≡ fields = cc in ap (λ x. Some (Fields x)) (sym (named-back ns) ∙ ap named_of e)
object-value o fields h = cc

-- ---- the function and the relation
pub object-of-event : (bytes : ByteString) (fields : List NamedDatum) → IsEvent bytes fields → object_of bytes ≡ Some fields
unfolding object_of
object-of-event bytes fields i =
    ap (λ t. cond t (object_fields (outcome AtValue [] bytes)) None) (shallow-test bytes Outside 0 i.shallow)
    ∙ ap object_fields (text-outcome bytes (Fields (named_of fields)) i.text)
    ∙ ap Some (named_list-named_of fields)

pub event-of-object : (bytes : ByteString) (fields : List NamedDatum) → object_of bytes ≡ Some fields → IsEvent bytes fields
unfolding object_of
event-of-object bytes fields h = by_test (stays_shallow Outside 0 bytes) refl h
  where
    by_test : (t : Bool) → t ≡ stays_shallow Outside 0 bytes → cond t (object_fields (outcome AtValue [] bytes)) None ≡ Some fields → IsEvent bytes fields
    by_test false e k = cc
    by_test true e k =
        let low : StaysShallow bytes (length bytes) = λ n l. shallow-take bytes Outside 0 n (sym e) in
        let v : IsValue bytes (Fields (named_of fields)) = read-through bytes bytes 0 AtValue [] (Fields (named_of fields)) refl (omega arith) (read-none bytes) low (object-value (outcome AtValue [] bytes) fields k) in
        event-of-value bytes (Fields (named_of fields)) fields v refl

-- ---- bytes with a fault are no object
no-fault-of-event : (bytes : ByteString) (fields : List NamedDatum) (f : JsonFault) → IsEvent bytes fields → IsFault bytes f → f ≡ fault.WantOfMemory
no-fault-of-event bytes fields (fault.NotJson at) i h = absurd (h.no_text (Fields (named_of fields)) i.text)
no-fault-of-event bytes fields (fault.Deep at) i h = absurd (too-deep h)
  where
    too-deep : IsDeep bytes at → ⊥
    too-deep d = let low : open_levels (take (at + 1) bytes) ≤ 32 = i.shallow (at + 1) (omega (arith, d.within)) in omega (arith, low, d.opened)
no-fault-of-event bytes fields fault.NotObject i h = absurd (subst IsNoObject (i.only h.value h.text) h.no_object)
no-fault-of-event bytes fields fault.WantOfMemory i h = refl

no-object : (bytes : ByteString) (f : JsonFault) → IsFault bytes f → f ≢ fault.WantOfMemory → object_of bytes ≡ None
no-object bytes f h n = by_object (object_of bytes) refl
  where
    by_object : (o : Option (List NamedDatum)) → o ≡ object_of bytes → object_of bytes ≡ None
    by_object None e = sym e
    by_object (Some fields) e = absurd (n (no-fault-of-event bytes fields f (event-of-object bytes fields (sym e)) h))

-- ---- what an answer of the reader tells
pub object-observed : (bytes : ByteString) (r : Result Event JsonFault) → IfOk r (λ event. IsEvent bytes event.fields) → IfOk r (λ event. object_of bytes ≡ Some event.fields)
object-observed bytes (Ok event) i = object-of-event bytes event.fields i
object-observed bytes (Err f) i = tt

pub no-object-observed : (bytes : ByteString) (r : Result Event JsonFault) → IfErr r (IsFault bytes) → IfErr r (λ f. f ≢ fault.WantOfMemory → object_of bytes ≡ None)
no-object-observed bytes (Ok event) h = tt
no-object-observed bytes (Err f) h = no-object bytes f h
