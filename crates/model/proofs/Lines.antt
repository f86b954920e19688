-- A job over another line, and what stays: `OverLine`.
use Prim.Native.Nat.{ℕ}
use mathlib.Core.Path.{◌≡◌, refl}
use mathlib.Core.Option.{Option, none, some}
use Rattle.model.specs.Job.{Line, Job, on_line, intervals, job_coding, coding, ChoiceFits, waits, decodes}
use Rattle.model.specs.Table.{Bounded}
use Rattle.model.specs.Claims.{OverLine}

pub over_line : OverLine
unfolding on_line
over_line j l = record { line = refl; delay = refl; start = refl; choices = refl; units = refl }

pub own_line : (j : Job) → on_line j j.line ≡ j
unfolding on_line
own_line j = refl

module _ (j : Job) (l : Line) where
  pub intervals_on : intervals (on_line j l) ≡ intervals j
  unfolding on_line intervals
  intervals_on = refl

  pub bounded_on : Bounded j → Bounded (on_line j l)
  unfolding on_line job_coding
  bounded_on b = record { units = b.units; distortions = b.distortions }

  pub choice_on : {t : ℕ} {c : Option ℕ} → ChoiceFits (on_line j l) t c → ChoiceFits j t c
  unfolding on_line
  choice_on (waits h) = waits h
  choice_on (decodes h k) = decodes h k

  pub coding_on : (t : ℕ) (x : Option ℕ) → coding (on_line j l) t x ≡ coding j t x
  unfolding on_line coding job_coding
  coding_on t none = refl
  coding_on t (some x) = refl
