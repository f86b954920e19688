-- `line::layer_line` meets its contract: the line itself, or with a neutral bucket in front.
use native.Mathlib.Omega.{arith}
use Rattle.interval.specs.Answers.{line_of}
use Rattle.model.specs.Neutral.{fronted, neutral}
use Rattle.sender.specs.Answers.{bucket_is}
use Rattle.sender.specs.Answers as layer_answers
use Rattle.line.specs.Answers.{line_is, itself, behind_one}
use Rattle.line.proofs.layer_line.Goals as goal

pub returns-in-None : goal.returns-in-None
unfolding layer_answers.line_is bucket_is fronted neutral line_is line_of
returns-in-None c = record {
  is = behind_one (rw (c.in-None.is, c.bucket_of-first.ensures.size, c.bucket_of-first.ensures.drain));
  fits = record { decoder = c.requires.buffers.decoder; outer = omega arith; inner = rw c.bucket_of-first.ensures.size c.requires.buffers.bucket; rates = c.requires.rates; size = c.requires.size };
}

pub returns-in-Some : goal.returns-in-Some
unfolding layer_answers.line_is bucket_is line_is line_of
returns-in-Some c = record {
  is = itself (rw (c.in-Some.is, c.bucket_of-first.ensures.size, c.bucket_of-first.ensures.drain, c.bucket_of.ensures.size, c.bucket_of.ensures.drain));
  fits = record { decoder = c.requires.buffers.decoder; outer = rw c.bucket_of-first.ensures.size c.requires.buffers.bucket; inner = rw c.bucket_of.ensures.size (omega (arith, c.requires.buffers.second _ c.in-Some.is)); rates = c.requires.rates; size = c.requires.size };
}
