-- What the functions of this crate say in the terms of `model`, and what they are asked.
use Rattle.std.specs.Prelude.{ℕ, suc, ◌+◌, ◌-◌, ◌<◌, ◌≤◌, ◌≡◌, true, List, get_or}
use Rattle.model.specs.Job as model
use Rattle.model.specs.Pins.{PinMap, pin_at}
use Rattle.format.specs.Choices.{no_choice, choice_of}
use Rattle.format.specs.Places.{coding_at}
use Rattle.format.specs.JobBytes.{Opens}
use Rattle.format.specs.JobBytes as format
use Rattle.header.specs.declared.Coding.{Coding}
use Rattle.header.specs.Answers.{coding_of}
use Rattle.replaying.specs.Entries.{entry_at, shaped}
use Rattle.interval.specs.declared.Interval.{Interval}
use Rattle.interval.specs.Answers.{Does}

-- the bytes are those of a job with this header, and the entries a plan of it in shape
pub record Shaped (b : List ℕ) (h : format.Header) (entries : List ℕ) : Type 0 where
  pub opens : Opens b h
  pub in_shape : shaped h entries ≡ true

-- the coding of the interval in a place, as it stands in the bytes
pub data CodingIn (b : List ℕ) (h : format.Header) (place choice : ℕ) (c : Coding) : Type 0 where
  no_coding : place < h.delay → coding_of c ≡ model.nothing → CodingIn b h place choice c
  coded : h.delay ≤ place → coding_of c ≡ coding_at b h (place - h.delay + 1) choice → CodingIn b h place choice c

-- the pin of the interval in a place, as it stands in the set
pub data PinIn (h : format.Header) (pins : List ℕ) (place x : ℕ) : Type 0 where
  no_pin : place < h.delay → x ≡ no_choice → PinIn h pins place x
  pinned : h.delay ≤ place → x ≡ get_or pins (place - h.delay) 0 → PinIn h pins place x

-- what the plan does in the interval of a place
pub record IsInterval (j : model.Job) (m : PinMap) (entries : List ℕ) (place : ℕ) (x : Interval) : Type 0 where
  pub does : Does j (suc place) (entry_at entries place) x
  pub pin : choice_of x.pin ≡ pin_at j m (suc place)
  pub choice : choice_of x.choice ≡ (entry_at entries place).choice
