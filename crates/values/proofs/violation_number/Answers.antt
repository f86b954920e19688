-- `values::violation_number` meets its contract.
use Rattle.parts.specs.Answers.{violation}
use Rattle.values.specs.Lists.{violation_number}
use Rattle.values.proofs.violation_number.Goals as goal

pub returns-in-DecoderUnderflow : goal.returns-in-DecoderUnderflow
unfolding violation_number violation
returns-in-DecoderUnderflow c = rw c.in-DecoderUnderflow.is

pub returns-in-DecoderOverflow : goal.returns-in-DecoderOverflow
unfolding violation_number violation
returns-in-DecoderOverflow c = rw c.in-DecoderOverflow.is

pub returns-in-BucketOverflow : goal.returns-in-BucketOverflow
unfolding violation_number violation
returns-in-BucketOverflow c = rw c.in-BucketOverflow.is

pub returns-in-PinNotHeld : goal.returns-in-PinNotHeld
unfolding violation_number violation
returns-in-PinNotHeld c = rw c.in-PinNotHeld.is

pub returns-in-SecondOverflow : goal.returns-in-SecondOverflow
unfolding violation_number violation
returns-in-SecondOverflow c = rw c.in-SecondOverflow.is
