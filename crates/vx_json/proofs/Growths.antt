-- Bytes that grew, and grew again.
use Rattle.std.proofs.Common.{◌≡◌, [], ◌∷◌, ◌++◌, take, length, refl, ap, ◌∙◌}
use Rattle.vx_value.specs.Texts.{ByteString}
use Rattle.vx_json.specs.Growth.{Keeps}

take-front : (old more : ByteString) → take (length old) (old ++ more) ≡ old
take-front [] more = refl
take-front (b ∷ old) more = ap (λ r. b ∷ r) (take-front old more)

take-twice : (a b c : ByteString) → take (length a) b ≡ a → take (length b) c ≡ b → take (length a) c ≡ a
take-twice [] b c h k = refl
take-twice (x ∷ a) [] c h k = cc
take-twice (x ∷ a) (y ∷ b) [] h k = cc
take-twice (x ∷ a) (y ∷ b) (z ∷ c) h k =
    let hd : y ≡ x = cc in
    let kd : z ≡ y = cc in
    let ht : take (length a) b ≡ a = cc in
    let kt : take (length b) c ≡ b = cc in
    λ i. (kd ∙ hd) i ∷ take-twice a b c ht kt i

pub keeps-more : (a b c : ByteString) → Keeps a b → Keeps b c → Keeps a c
keeps-more a b c h k = record { front = take-twice a b c h.front k.front }

-- bytes that were kept, and had more added
pub keeps-added : (a b more c : ByteString) → Keeps a b → c ≡ b ++ more → Keeps a c
keeps-added a b more c h e = keeps-more a b c h (record { front = ap (take (length b)) e ∙ take-front b more })
