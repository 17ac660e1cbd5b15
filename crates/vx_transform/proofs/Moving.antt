-- What is put, discarded or left moves copies as every transform may.
use Rattle.std.proofs.Common.{◌≡◌, ℕ, ◌<◌, ◌^◌, List, [], ◌++◌, refl, sym, subst}
use Rattle.std.specs.List.Sorted.{IsPermutation}
use Rattle.std.proofs.Math.Seq.{drop-append_seam, drop-length}
use Rattle.std.proofs.lemmas.List.{append-nil}
use Rattle.std.proofs.lemmas.List.Elements.{All-nil, All-cons}
use Rattle.std.proofs.lemmas.List.Sorted.{IsPermutation-refl}
use Rattle.vx_ledger.specs.Copies.{Copy}
use Rattle.vx_ledger.specs.declared.parcel.Parcel.{Parcel}
use Rattle.vx_transform.specs.declared.output.Output.{Output}
use Rattle.vx_transform.specs.Shelves.{Shelved, put, discard, copies_on}
use Rattle.vx_transform.specs.Moves.{added, NamesPorts, Moves}

same_copies : (given others : List Copy) → others ≡ given → IsPermutation given others
same_copies given others e = subst (λ (copies : List Copy). IsPermutation given copies) (sym e) (IsPermutation-refl given)

-- a parcel that is put out on some of so many ports
pub put_moves : (count : ℕ) (old : Shelved) (output : Output) → 0 < output.ports → output.ports < 2 ^ count →
    Moves count output.parcel.finalizers [] old (put old output)
put_moves count old output some below = record {
  outputs = rw drop-append_seam refl;
  dropped = rw drop-length (sym (append-nil old.dropped));
  copies = same_copies output.parcel.finalizers (copies_on (added old (put old output)) ++ []) (rw (drop-append_seam, drop-length) (simp append-nil));
  named = rw drop-append_seam (All-cons (NamesPorts count) output [] (record { some = some; below = below }) (All-nil (NamesPorts count)));
}

-- a parcel that is discarded
pub discard_moves : (count : ℕ) (old : Shelved) (parcel : Parcel) → Moves count parcel.finalizers [] old (discard old parcel)
discard_moves count old parcel = record {
  outputs = rw drop-length (sym (append-nil old.outputs));
  dropped = rw drop-append_seam refl;
  copies = same_copies parcel.finalizers (copies_on (added old (discard old parcel)) ++ []) (rw (drop-length, drop-append_seam) (simp append-nil));
  named = rw drop-length (All-nil (NamesPorts count));
}

-- nothing at all
pub nothing_moves : (count : ℕ) (old : Shelved) → Moves count [] [] old old
nothing_moves count old = record {
  outputs = rw drop-length (sym (append-nil old.outputs));
  dropped = rw drop-length (sym (append-nil old.dropped));
  copies = same_copies [] (copies_on (added old old) ++ []) (rw (drop-length, drop-length) refl);
  named = rw drop-length (All-nil (NamesPorts count));
}
