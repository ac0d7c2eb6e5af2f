-- The ends that are led to, by the test of them as one number. Assumes nothing.
use Prim.Native.Nat.{ℕ}
use mathlib.Core.Path.{◌≡◌, sym}
use Rattle.model.specs.Sound.{is_led_to}
use Rattle.model.proofs.HaltEnds.{led_by, led_is}

pub led_tested : (end time : ℕ) → is_led_to end time ≡ led_by end time
led_tested end time = sym (led_is end time)
