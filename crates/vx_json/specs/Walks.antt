-- Where bytes lead that may open and close levels.
use Rattle.std.specs.Prelude.{◌≡◌, ℕ, ◌≤◌, true, Option, Some, None, List, [], ◌∷◌, ◌++◌, take, slice_index}
use Rattle.std.specs.Str.Lossy.{utf8_lossy}
use Rattle.vx_value.specs.Texts.{ByteString}
use Rattle.vx_value.specs.Datum.{Datum, Items, Fields, data_of, named_of}
use Rattle.vx_value.specs.Events.{with_field}
use Rattle.vx_value.specs.Values.{datum_of}
use Rattle.vx_value.specs.declared.value.Value.{Value}
use Rattle.vx_json.specs.Machine.{Mode, Frame, InItems, InFields, AtValue, AtEnd, InNumber, number_move, may_end, number_datum, state, step, height}
use Rattle.vx_json.specs.Openings.{IsQuoted}
use Rattle.vx_json.specs.Runs.{LeadsLevel}
use Rattle.vx_json.specs.declared.number_place.NumberPlace.{NumberPlace}

-- bytes lead from one place to another, with what is open there, and behind each of them at most 32 levels are open
abbrev pub LeadsLow : Mode → List Frame → ByteString → Mode → List Frame → Type 0
LeadsLow m st [] n su = (m ≡ n) × (st ≡ su)
LeadsLow m st (b ∷ w) n su = (k : Mode) × (sv : List Frame) × (step m st b ≡ state k sv) × (height k sv ≤ 32) × LeadsLow k sv w n su

-- before a value, or behind one
abbrev pub held_view : Option Value → Mode
held_view None = AtValue
held_view (Some value) = AtEnd (datum_of value)

-- where at most 32 levels are open, bytes lead low to a place before a value or behind one
abbrev pub LeadsOn : Mode → List Frame → ByteString → Option Value → List Frame → Type 0
LeadsOn m st w held su = height m st ≤ 32 → LeadsLow m st w (held_view held) su

-- a name in quotes, and a colon
pub record IsNamed (w name : ByteString) : Type 0 where
  pub text : ByteString
  pub bytes : w ≡ text ++ 58 ∷ []
  pub quoted : IsQuoted text name

-- bytes lead from one place of a number to another
abbrev pub LeadsNumber : NumberPlace → ByteString → NumberPlace → Type 0
LeadsNumber p [] q = p ≡ q
LeadsNumber p (b ∷ w) q = (k : NumberPlace) × (number_move p b ≡ Some k) × LeadsNumber k w q

-- so many bytes go on with a number and end it: one comes behind them that is no part of it
pub record EndsNumber (p : NumberPlace) (bytes : ByteString) (n : ℕ) : Type 0 where
  pub place : NumberPlace
  pub leads : LeadsNumber p (take n bytes) place
  pub ends : may_end place ≡ true
  pub stops : number_move place (slice_index bytes n) ≡ None

-- the value of an array or an object that ends behind its last value
abbrev pub closed_datum : Frame → Datum → Datum
closed_datum (InItems ds) d = Items (data_of (ds ++ d ∷ []))
closed_datum (InFields fs name) d = Fields (named_of (with_field fs name d))

-- the first bytes, that many, spell a number of that value, and one comes behind them that is no part of it
pub record IsNumber (bytes : ByteString) (n : ℕ) (d : Datum) : Type 0 where
  pub place : NumberPlace
  pub leads : (st : List Frame) → LeadsLevel AtValue st (take n bytes) (InNumber place (take n bytes))
  pub ends : may_end place ≡ true
  pub stops : number_move place (slice_index bytes n) ≡ None
  pub value : d ≡ number_datum (utf8_lossy (take n bytes))

-- the byte that ends what is open
abbrev pub end_byte : Frame → ℕ
end_byte (InItems ds) = 93
end_byte (InFields fs name) = 125

-- a byte ends the innermost of what is open
abbrev pub EndsInnermost : List Frame → ℕ → Type 0
EndsInnermost [] b = ⊥
EndsInnermost (f ∷ st) b = b ≡ end_byte f
