-- The programmes before `at` are written, two numbers each.
use Rattle.std.proofs.Common.{◌≡◌, ◌≤◌, ◌-◌, length}
use Rattle.programme.proofs.Put.{twice, partly}
use Rattle.programme.proofs.put_numbers.Given as goal

abbrev pub invariant-loop-at : goal.invariant-loop-at
invariant-loop-at l = record {
  within : l.at ≤ length l.list;
  place : l.to ≡ twice l.at;
  room : l.to ≤ length l.initial.numbers;
  written : l.numbers ≡ partly l.list l.initial.numbers l.at;
}

abbrev pub decreases-loop-at : goal.decreases-loop-at
decreases-loop-at l = length l.list - l.at
