-- One line more.
use Rattle.std.proofs.Common.{◌≡◌, ℕ, zero, suc, ◌+◌, [], ◌∷◌, ◌++◌, take, length, refl, ap, ◌∙◌, arith, append_assoc}
use Rattle.std.proofs.lemmas.List.{take_at}
use Rattle.rand_pcg.specs.Lcg.{next_state, state_after}
use Rattle.rand_pcg.specs.Pcg.{multiplier_64, pcg32}
use Rattle.vx_value.specs.Texts.{ByteString}
use Rattle.vx_json.specs.Growth.{Keeps}
use Rattle.vx_json.proofs.Growths.{keeps-more}
use Rattle.vx_demo.specs.DemoLines.{generator, word_at, demo_line}
use Rattle.vx_demo.specs.declared.demo_settings.DemoSettings.{DemoSettings}
use Rattle.vx_record.specs.Generating.{lines_from}
use Rattle.vx_sourcecore.specs.Lines.{generator_at}

-- a step behind some is one step more
state_after-more : (w m p k s : ℕ) → next_state w m p (state_after w m p k s) ≡ state_after w m p (k + 1) s
unfolding state_after
state_after-more w m p zero s = refl
state_after-more w m p (suc k) s =
    let e : suc (k + 1) ≡ suc k + 1 = omega arith in
    state_after-more w m p k (next_state w m p s) ∙ ap (λ (n : ℕ). state_after w m p n s) e

-- where a generator gave a word for each line before one, its next word is that line's
pub word_of_line : (seed k : ℕ) → pcg32 (generator_at seed k) ≡ (word_at seed k, generator_at seed (k + 1))
unfolding generator_at word_at
word_of_line seed k =
    ap (λ (s : ℕ). (word_at seed k, record (generator seed) { state = s })) (state_after-more 64 multiplier_64 (generator seed).increment k (generator seed).state)

-- one line more at the end
pub lines_from-more : (demo : DemoSettings) (k n : ℕ) → lines_from demo k (n + 1) ≡ lines_from demo k n ++ demo_line demo (k + n) ++ 10 ∷ []
lines_from-more demo k zero = let e : k ≡ k + 0 = omega arith in ap (λ (j : ℕ). demo_line demo j ++ 10 ∷ []) e
lines_from-more demo k (suc n) =
    let e : suc n + 1 ≡ suc (n + 1) = omega arith in
    let d : k + 1 + n ≡ k + suc n = omega arith in
    ap (lines_from demo k) e
    ∙ ap (λ rest. demo_line demo k ++ 10 ∷ rest) (lines_from-more demo (k + 1) n ∙ ap (λ (j : ℕ). lines_from demo (k + 1) n ++ demo_line demo j ++ 10 ∷ []) d)
    ∙ simp append_assoc

-- bytes that keep others with more behind them keep those
pub keeps-behind : (old more now new : ByteString) → now ≡ old ++ more → Keeps now new → Keeps old new
keeps-behind old more now new e k = keeps-more old now new (record { front = ap (take (length old)) e ∙ take_at old more (length old) refl }) k

-- what a line more takes
pub ruleset stepping = (word_of_line, lines_from-more, append_assoc)
