-- Which numbers are held of the standard streams that a process was started without.
use Rattle.std.specs.Prelude.{◌≡◌, ◌⊎◌, IfSome, pos}
use Rattle.std.specs.Fd.{file_raw_fd}
use Rattle.vx_ends_os.specs.declared.held_streams.HeldStreams.{HeldStreams}

-- each file that is held has the number of a standard stream: that of the input, or of an output
pub record HoldsStandardStreams (held : HeldStreams) : Type 0 where
  pub input : IfSome held.input (λ file. file_raw_fd file ≡ pos 0)
  pub output : IfSome held.output (λ file. (file_raw_fd file ≡ pos 1) ⊎ (file_raw_fd file ≡ pos 2))
  pub other_output : IfSome held.other_output (λ file. (file_raw_fd file ≡ pos 1) ⊎ (file_raw_fd file ≡ pos 2))
