-- The lines of generated input.
use Rattle.std.specs.Prelude.{ℕ, zero, suc, ◌%◌, Bool, true, false, [], ◌∷◌, ◌++◌, length, slice_index_or, decimal}
use Rattle.rand_core.specs.Pcg32Seed.{pcg32_seed}
use Rattle.rand_pcg.specs.Lcg.{Lcg, advance}
use Rattle.rand_pcg.specs.Pcg.{multiplier_64, pcg32_of_seed, output_xsh_rr}
use Rattle.vx_value.specs.Texts.{ByteString}
use Rattle.vx_demo.specs.declared.demo_settings.DemoSettings.{DemoSettings}

-- the generator of a seed: the 32-bit PCG, whose seed is made of the number
unfoldable pub generator : ℕ → Lcg
generator seed = pcg32_of_seed (pcg32_seed 16 seed)

-- its k-th word, counted from 0
unfoldable pub word_at : ℕ → ℕ → ℕ
unfolding generator
word_at seed k = output_xsh_rr (advance 64 multiplier_64 k (generator seed)).state

-- what stands before the text of the k-th line: k and a blank, where lines are numbered
abbrev pub line_mark : Bool → ℕ → ByteString
line_mark false k = []
line_mark true k = decimal k ++ 32 ∷ []

-- the k-th line, counted from 0: of the texts the one at the k-th word, modulo how many there are
abbrev pub demo_line : DemoSettings → ℕ → ByteString
demo_line settings k =
    line_mark settings.sequence k ++ slice_index_or settings.lines (word_at settings.seed k % length settings.lines) []

-- the first n lines, each with its line feed
abbrev pub demo_lines : DemoSettings → ℕ → ByteString
demo_lines settings zero = []
demo_lines settings (suc n) = demo_lines settings n ++ demo_line settings n ++ 10 ∷ []
