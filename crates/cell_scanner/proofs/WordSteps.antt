-- The word steps of a run: a word without a flag is eight bytes of the run, and otherwise the run ends before the first flag. The laws are
-- those of any test (swar's FlaggedPrefix).
use Prim.Native.Nat.{ℕ, ◌+◌, ◌≤◌, ◌<◌}
use mathlib.Core.Path.{◌≡◌}
use Rattle.model.specs.rules.Base.{Bytes}
use Rattle.model.specs.rules.Api.{slice}
use Rattle.swar.specs.Words.{ordinary, bytes_of, Word, Flags, zero_bytes}
use Rattle.swar.proofs.FlaggedPrefix.{slice_passes, slice_stops}
use Rattle.cell_scanner.specs.Run.{leading}

-- the word at i, and its flags
module _ (s : Bytes) (i stop p q w flags : ℕ) (h : i + 8 ≤ stop) (is_word : Word (slice s i (i + 8)) w) (told : Flags (ordinary p q) w flags) where
  pub run_goes_on : flags ≡ 0 → leading p q (slice s i stop) ≡ 8 + leading p q (slice s (i + 8) stop)
  unfolding leading
  run_goes_on e = slice_passes s i is_word told stop h e

  pub run_ends : ¬ (flags ≡ 0) → (zero_bytes (bytes_of 8 flags) ≡ leading p q (slice s i stop)) × (leading p q (slice s i stop) < 8)
  unfolding leading
  run_ends e = slice_stops s i is_word told stop h e
