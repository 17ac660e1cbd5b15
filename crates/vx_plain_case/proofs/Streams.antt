-- The bytes of a source that takes of one stream.
use Rattle.std.proofs.Common.{◌≡◌, ℕ, ◌<◌, Bool, true, false, List, [], ◌∷◌, ◌++◌, length, refl, sym, ap, subst, ◌∙◌, arith, Option, Some, None}
use Rattle.std.specs.Prelude.{◌≢◌, ◌==◌, ◌&&◌, if◌then◌else◌, unwrap_or}
use Rattle.std.proofs.lemmas.Bool.{eqb-true, eq-eqb}
use Rattle.std.proofs.lemmas.List.{append_assoc, append-nil, length-append}
use Rattle.vx_value.specs.Texts.{ByteString}
use Rattle.vx_record.specs.declared.taken.Taken.{Taken}
use Rattle.vx_record.specs.declared.taken.Taken.TheVariants.{Bytes, StreamEnded, AllEnded}
use Rattle.vx_record.specs.declared.entry.Entry.{Entry}
use Rattle.vx_record.specs.declared.entry.Entry.TheVariants.{Read}
use Rattle.vx_record.specs.Records.{Record}
use Rattle.vx_record.specs.Copies.{count}
use Rattle.vx_record.specs.Reads.{bytes_of, has_bytes, taken, last_stream, ended_by, ended_streams, stream_of, open_bytes}
use Rattle.vx_record.proofs.Counts.{count-append}
use Rattle.vx_plain_case.specs.Plain.{NoneBehindEnd, EndlessLaw}

-- the source took bytes of this stream alone, and none behind an end of it
pub record OneStream (h : Record) (i stream : ℕ) : Type 0 where
  pub one : (other : ℕ) → other ≢ stream → taken h i other ≡ []
  pub unbroken : NoneBehindEnd h i stream

-- parts of nothing are nothing
none_left : {X : Type 0} (xs ys : List X) → xs ++ ys ≡ [] → xs ≡ []
none_left [] ys none = refl
none_left (x ∷ xs) ys none = cc

-- the second part too
none_right : {X : Type 0} (xs ys : List X) → xs ++ ys ≡ [] → ys ≡ []
none_right [] ys none = none
none_right (x ∷ xs) ys none = cc

-- it did so before
unbroken_before : (h : Record) (e : Entry) (i stream : ℕ) → NoneBehindEnd (e ∷ h) i stream → NoneBehindEnd h i stream
unbroken_before h e i stream is = λ later earlier bytes there. is (e ∷ later) earlier bytes (ap (λ (r : Record). e ∷ r) there)

-- so all of it was so before
pub one_before : (h : Record) (e : Entry) (i stream : ℕ) → OneStream (e ∷ h) i stream → OneStream h i stream
one_before h (Read j s took) i stream is = record {
  one = λ other apart. none_left (taken h i other) (if (j == i) && (s == other) then bytes_of took else []) (is.one other apart);
  unbroken = unbroken_before h (Read j s took) i stream is.unbroken;
}
one_before h e i stream is = record { one = is.one; unbroken = unbroken_before h e i stream is.unbroken }

-- an end that was told before is told still
ended_before : (later earlier : Record) (i stream : ℕ) → count stream (ended_streams (later ++ earlier) i) ≡ 0 → count stream (ended_streams earlier i) ≡ 0
ended_before [] earlier i stream none = none
ended_before (e ∷ later) earlier i stream none =
    let all = count-append stream (ended_streams (later ++ earlier) i) (ended_by i e) in
    ended_before later earlier i stream (omega (arith, none, all))

-- so no bytes came behind an end
pub endless_unbroken : EndlessLaw
endless_unbroken h i stream none = λ later earlier bytes there some.
    let before = ended_before (later ++ Read i stream (Bytes bytes) ∷ []) earlier i stream
    (ap (λ (r : Record). count stream (ended_streams r i)) (append_assoc later (Read i stream (Bytes bytes) ∷ []) earlier ∙ there) ∙ none) in
    absurd (omega (arith, some, before))

-- a Read of the source itself
pub own_taken : (h : Record) (i s t : ℕ) (took : Taken) → taken (Read i s took ∷ h) i t ≡ taken h i t ++ (if s == t then bytes_of took else [])
own_taken h i s t took = ap (λ (b : Bool). taken h i t ++ (if b && (s == t) then bytes_of took else [])) (eq-eqb i i refl)

-- of another stream it takes no bytes
pub none_new : (h : Record) (i s stream : ℕ) (bytes : ByteString) → OneStream (Read i s (Bytes bytes) ∷ h) i stream → s ≢ stream → bytes ≡ []
none_new h i s stream bytes is apart =
    none_right (taken h i s) bytes
    (ap (λ (b : Bool). taken h i s ++ (if b then bytes else [])) (sym (eq-eqb s s refl)) ∙ sym (own_taken h i s s (Bytes bytes)) ∙ is.one s apart)

-- so nothing of another is open
pub others_shut : (h : Record) (i stream other : ℕ) → OneStream h i stream → other ≢ stream → open_bytes h i other ≡ []
others_shut [] i stream other is apart = refl
others_shut (Read j s took ∷ h) i stream other is apart = go took is (others_shut h i stream other (one_before h (Read j s took) i stream is) apart)
  where
    go : (took : Taken) → OneStream (Read j s took ∷ h) i stream → open_bytes h i other ≡ [] → open_bytes (Read j s took ∷ h) i other ≡ []
    go (Bytes bytes) is ih = here (j == i) refl (s == other) refl
      where
        here : (a : Bool) → (j == i) ≡ a → (b : Bool) → (s == other) ≡ b → (if a && b then open_bytes h i other ++ bytes else open_bytes h i other) ≡ []
        here true own true same =
            ap (λ (w : ByteString). w ++ bytes) ih
            ∙ none_new h i s stream bytes (subst (λ (n : ℕ). OneStream (Read n s (Bytes bytes) ∷ h) i stream) (eqb-true j i own) is)
            (λ e. apart (sym (eqb-true s other same) ∙ e))
        here true own false same = ih
        here false own b same = ih
    go StreamEnded is ih = here ((j == i) && (stream_of h i s StreamEnded == other))
      where
        here : (b : Bool) → (if b then [] else open_bytes h i other) ≡ []
        here true = refl
        here false = ih
    go AllEnded is ih = here ((j == i) && (stream_of h i s AllEnded == other))
      where
        here : (b : Bool) → (if b then [] else open_bytes h i other) ≡ []
        here true = refl
        here false = ih
others_shut (e ∷ h) i stream other is apart = others_shut h i stream other (one_before h e i stream is) apart

-- THE LAST STREAM
-- bytes were taken of the last stream, and without one none were
abbrev pub IsLast : Option ℕ → Record → ℕ → Type 0
IsLast None h i = (s : ℕ) → taken h i s ≡ []
IsLast (Some s) h i = 0 < length (taken h i s)

-- a Read with bytes has some
some_taken : (took : Taken) → has_bytes took ≡ true → 0 < length (bytes_of took)
some_taken (Bytes []) some = cc
some_taken (Bytes (b ∷ bytes)) some = omega arith
some_taken StreamEnded some = cc
some_taken AllEnded some = cc

-- and one without has none
none_taken : (took : Taken) → has_bytes took ≡ false → bytes_of took ≡ []
none_taken (Bytes []) none = refl
none_taken (Bytes (b ∷ bytes)) none = cc
none_taken StreamEnded none = refl
none_taken AllEnded none = refl

-- a Read that takes nothing of the source leaves that
last_on : (o : Option ℕ) (h : Record) (e : Entry) (i : ℕ) → ((s : ℕ) → taken (e ∷ h) i s ≡ taken h i s) → IsLast o h i → IsLast o (e ∷ h) i
last_on None h e i same is = λ s. same s ∙ is s
last_on (Some s) h e i same is = subst (λ (w : ByteString). 0 < length w) (sym (same s)) is

-- so it is of each record
last_given : (h : Record) (i : ℕ) → IsLast (last_stream h i) h i
last_given [] i = λ s. refl
last_given (Read j s took ∷ h) i = go (j == i) refl (has_bytes took) refl (last_given h i)
  where
    e : Entry
    e = Read j s took

    nothing : (a : Bool) → a && has_bytes took ≡ false → (t : ℕ) → taken h i t ++ (if a && (s == t) then bytes_of took else []) ≡ taken h i t
    nothing true none t = ap (λ (w : ByteString). taken h i t ++ w) (either_way (s == t)) ∙ append-nil (taken h i t)
      where
        either_way : (b : Bool) → (if b then bytes_of took else []) ≡ []
        either_way true = none_taken took none
        either_way false = refl
    nothing false none t = append-nil (taken h i t)

    go : (a : Bool) → (j == i) ≡ a → (b : Bool) → has_bytes took ≡ b → IsLast (last_stream h i) h i → IsLast (if (j == i) && has_bytes took then Some s else last_stream h i) (e ∷ h) i
    go true is true some was =
        subst (λ (c : Bool). IsLast (if c then Some s else last_stream h i) (e ∷ h) i) (ap (λ (c : Bool). true && c) (sym some) ∙ ap (λ (c : Bool). c && has_bytes took) (sym is))
        (let more = length-append (taken h i s) (bytes_of took) in
        let few = some_taken took some in
        subst (λ (c : Bool). 0 < length (taken h i s ++ (if c then bytes_of took else []))) (ap (λ (c : Bool). true && c) (sym (eq-eqb s s refl)) ∙ ap (λ (c : Bool). c && (s == s)) (sym is))
        (omega (arith, more, few)))
    go true is false none was =
        subst (λ (c : Bool). IsLast (if c then Some s else last_stream h i) (e ∷ h) i) (ap (λ (c : Bool). true && c) (sym none) ∙ ap (λ (c : Bool). c && has_bytes took) (sym is))
        (last_on (last_stream h i) h e i (nothing (j == i) (ap (λ (c : Bool). c && has_bytes took) is ∙ none)) was)
    go false is b some was =
        subst (λ (c : Bool). IsLast (if c then Some s else last_stream h i) (e ∷ h) i) (ap (λ (c : Bool). c && has_bytes took) (sym is))
        (last_on (last_stream h i) h e i (nothing (j == i) (ap (λ (c : Bool). c && has_bytes took) is)) was)
last_given (e ∷ h) i = last_on (last_stream h i) h e i (λ s. refl) (last_given h i)

-- where the last stream isn't the one nothing was taken of that
pub none_of_one : (h : Record) (i stream : ℕ) → OneStream h i stream → unwrap_or (last_stream h i) 0 ≢ stream → taken h i stream ≡ []
none_of_one h i stream is apart = go (last_stream h i) (last_given h i) apart
  where
    go : (o : Option ℕ) → IsLast o h i → unwrap_or o 0 ≢ stream → taken h i stream ≡ []
    go None none away = none stream
    go (Some s) some away = let gone = ap (λ (w : ByteString). length w) (is.one s away) in absurd (omega (arith, some, gone))
