-- What a maker makes.
use Rattle.std.proofs.Common.{Result, Ok, Err, OnOk, List, ◌++◌, arith}
use Rattle.std.proofs.lemmas.List.Sums.{sum_by-append}
use Rattle.vx_ledger.specs.Copies.{Copy}
use Rattle.vx_keeping.specs.Given.{SameCopies}

-- with some others behind them
pub same_with : (a b c d e f l : List Copy) → SameCopies (a ++ (b ++ c)) (d ++ (e ++ f)) → SameCopies (a ++ (b ++ (c ++ l))) (d ++ (e ++ (f ++ l)))
same_with a b c d e f l same w =
    let x = same w in
    let p = sum_by-append w a (b ++ c) in
    let q = sum_by-append w b c in
    let r = sum_by-append w d (e ++ f) in
    let s = sum_by-append w e f in
    let t = sum_by-append w a (b ++ (c ++ l)) in
    let u = sum_by-append w b (c ++ l) in
    let v = sum_by-append w c l in
    let y = sum_by-append w d (e ++ (f ++ l)) in
    let z = sum_by-append w e (f ++ l) in
    let n = sum_by-append w f l in
    omega (arith, x, p, q, r, s, t, u, v, y, z, n)

pub ok_weaker : {T E P Q : Type 0} (r : Result T E) → (P → Q) → OnOk r P → OnOk r Q
ok_weaker (Ok x) f p = f p
ok_weaker (Err x) f p = tt

pub ok_three : {T E A B C P : Type 0} (r : Result T E) → (A → B → C → P) → OnOk r A → OnOk r B → OnOk r C → OnOk r P
ok_three (Ok x) f a b c = f a b c
ok_three (Err x) f a b c = tt

pub ok_four : {T E A B C D P : Type 0} (r : Result T E) → (A → B → C → D → P) → OnOk r A → OnOk r B → OnOk r C → OnOk r D → OnOk r P
ok_four (Ok x) f a b c d = f a b c d
ok_four (Err x) f a b c d = tt
