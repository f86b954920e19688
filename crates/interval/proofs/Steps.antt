-- What an interval leads to, from what the tests of decoder, bucket and pin answered.
use Prim.Native.Nat.{ℕ, ◌+◌, ◌<◌, ◌≤◌}
use mathlib.Core.Path.{◌≡◌, refl, sym, ap, subst, ◌∙◌}
use mathlib.Core.Bool.{true, false}
use mathlib.Core.Option.{Option, none, some}
use mathlib.Core.List.{List, [], ◌∷◌, map, zip_with}
use lib.ListN.{get_or}
use native.Mathlib.Omega.{arith}
use borrow.Author.Tests.{lt-ltb, le-ltb}
use Rattle.std.specs.Prelude.{if◌then◌else◌, Some, None}
use Rattle.std.specs.Prelude as std
use Rattle.std.specs.Option.{option_map, option_to_list}
use Rattle.model.specs.Replay as replay
use Rattle.model.specs.Admissible.{Violation, bucket_overflow, pin_not_held, breaks, holds}
use Rattle.model.specs.Step.{decoder_step, bucket_step, Outcome, violates, reaches, after_sending, overfull, pin_held, or_overflow, after_decoder, outcome_of}
use Rattle.model.specs.Step as step
use Rattle.format.specs.JobBytes.{Policed}
use Rattle.header.specs.declared.Bucket as header
use Rattle.header.specs.Answers.{policed_of, further}
use Rattle.parts.specs.declared.Drained.{Drained}
use Rattle.parts.specs.Answers.{drained}
use Rattle.interval.specs.declared.Buffers.{Buffers}
use Rattle.interval.specs.declared.Policer.{Policer}
use Rattle.interval.specs.declared.Levels.{Levels}
use Rattle.interval.specs.Answers.{levels_of, bucket_is, second_drained, line_of, second_over, SecondRoom, MoreUnused}

pub outcome_decoder : (k : Buffers) (before : Levels) (c : ℕ) (pinned choice : Option ℕ) (b t : ℕ) (v : Violation) → breaks v ≡ decoder_step k.decoder b c t → violates v ≡ outcome_of (line_of k []) pinned choice b (levels_of before).buckets c t
unfolding outcome_of line_of after_decoder
outcome_decoder k before c pinned choice b t v e = rw (← e)

-- the second bucket's level and its limit, where there is one
second_level : (s : std.Option Policer) (l : std.Option ℕ) (c : ℕ) (r : std.Option Drained) → option_to_list (option_map drained r) ≡ second_drained s l c → zip_with (λ k l. (bucket_step k.drain l c).level) (option_to_list (option_map bucket_is s)) (option_to_list l) ≡ option_to_list (option_map (λ d. d.level) r)
unfolding zip_with drained
second_level (Some s) (Some l) c (Some d) e = cc
second_level (Some s) (Some l) c None e = cc
second_level (Some s) None c (Some d) e = cc
second_level (Some s) None c None e = refl
second_level None l c (Some d) e = cc
second_level None l c None e = refl

second_limit : (s : std.Option Policer) (l : std.Option ℕ) (c : ℕ) (r : std.Option Drained) → option_to_list (option_map drained r) ≡ second_drained s l c → overfull (option_to_list (option_map bucket_is s)) (option_to_list (option_map (λ d. d.level) r)) ≡ (if second_over s r then some 0 else none)
unfolding overfull
second_limit (Some s) l c (Some d) e = refl
second_limit (Some s) l c None e = refl
second_limit None l c (Some d) e = cc
second_limit None l c None e = refl

-- an interval over a line of these buffers, from what its parts answered
module _ (k : Buffers) (before : Levels) (c : ℕ) (r : std.Option Drained) (pinned choice : Option ℕ) (b t : ℕ) where
  abbrev outcome : Outcome
  outcome = outcome_of (line_of k []) pinned choice b (levels_of before).buckets c t

  abbrev levels : ℕ → List ℕ
  levels x = x ∷ option_to_list (option_map (λ d. d.level) r)

  module _ (d : ℕ) (e : holds d ≡ decoder_step k.decoder b c t) (x : ℕ) (w : x ≡ (bucket_step k.first.drain before.bucket c).level) (s : option_to_list (option_map drained r) ≡ second_drained k.second before.bucket2 c) where
    -- the levels after sending
    sent_on : after_sending c (line_of k []).buckets (levels_of before).buckets ≡ levels x
    unfolding after_sending line_of levels_of zip_with
    sent_on = rw (← w, second_level k.second before.bucket2 c r s)

    opened : outcome ≡ or_overflow (overfull (line_of k []).buckets (levels x)) (if pin_held pinned choice then reaches (record { decoder = d; buckets = levels x }) else violates pin_not_held)
    unfolding outcome_of after_decoder
    opened = rw (sent_on) (unfold line_of in rw (← e))

    pub outcome_bucket : k.first.size < x → violates (bucket_overflow 0) ≡ outcome
    unfolding line_of overfull or_overflow
    outcome_bucket o = sym (opened ∙ rw (lt-ltb k.first.size x o))

    pub outcome_second : x ≤ k.first.size → second_over k.second r ≡ true → violates (bucket_overflow 1) ≡ outcome
    unfolding line_of overfull or_overflow
    outcome_second o l = sym (opened ∙ rw (le-ltb k.first.size x o, second_limit k.second before.bucket2 c r s, l))

    module _ (o : x ≤ k.first.size) (l : second_over k.second r ≡ false) where
      within : overfull (line_of k []).buckets (levels x) ≡ none
      unfolding line_of overfull
      within = rw (le-ltb k.first.size x o, second_limit k.second before.bucket2 c r s, l)

      pub outcome_pin : pin_held pinned choice ≡ false → violates pin_not_held ≡ outcome
      unfolding or_overflow
      outcome_pin q = sym (opened ∙ rw (within, q))

      pub outcome_reaches : pin_held pinned choice ≡ true → {y : std.Option ℕ} → y ≡ option_map (λ d. d.level) r → reaches (record { decoder = d; buckets = x ∷ option_to_list y }) ≡ outcome
      unfolding or_overflow
      outcome_reaches q f = sym (opened ∙ rw (within, q, f))

-- what goes unused of the second bucket's drain
pub second_unused : (u : std.Option ℕ) (s : std.Option Policer) (l : std.Option ℕ) (c : ℕ) (r : std.Option Drained) (o : std.Option ℕ) → option_to_list (option_map drained r) ≡ second_drained s l c → MoreUnused u r o → option_to_list o ≡ zip_with ◌+◌ (option_to_list u) (zip_with (λ k l. (bucket_step k.drain l c).unused) (option_to_list (option_map bucket_is s)) (option_to_list l))
unfolding zip_with
second_unused u s l c r o e m = m ∙ ap (λ (x : List ℕ). zip_with ◌+◌ (option_to_list u) x) (go s l r e)
  where
    go : (s : std.Option Policer) (l : std.Option ℕ) (r : std.Option Drained) → option_to_list (option_map drained r) ≡ second_drained s l c → option_to_list (option_map (λ (d : Drained). d.unused) r) ≡ zip_with (λ k l. (bucket_step k.drain l c).unused) (option_to_list (option_map bucket_is s)) (option_to_list l)
    go (Some s) (Some l) (Some d) e = unfold drained in cc
    go (Some s) (Some l) None e = cc
    go (Some s) None (Some d) e = cc
    go (Some s) None None e = refl
    go None l (Some d) e = cc
    go None l None e = refl

-- there is room for what the second bucket leaves unused
pub second_room : (a : ℕ) (u : std.Option ℕ) (s : std.Option Policer) (l : std.Option ℕ) (c : ℕ) (r : std.Option Drained) → option_to_list (option_map drained r) ≡ second_drained s l c → get_or (a ∷ option_to_list u) 1 0 + 65535 < 4294967296 → ((p : Policer) → s ≡ Some p → p.drain ≤ 65535) → SecondRoom u r
unfolding drained bucket_step
second_room a u s l c r e h m = record { fits = λ v d p q. go v d s l (subst (λ (o : std.Option Drained). option_to_list (option_map drained o) ≡ second_drained s l c) q e) (subst (λ (o : std.Option ℕ). get_or (a ∷ option_to_list o) 1 0 + 65535 < 4294967296) p h) m }
  where
    go : (v : ℕ) (d : Drained) (s : std.Option Policer) (l : std.Option ℕ) → drained d ∷ [] ≡ second_drained s l c → v + 65535 < 4294967296 → ((p : Policer) → s ≡ Some p → p.drain ≤ 65535) → v + d.unused < 4294967296
    go v d (Some p) (Some l) e h m = let f : drained d ≡ bucket_step p.drain l c = cc in omega (arith, ap (λ (x : step.Drained). x.unused) f, m p refl)
    go v d (Some p) None e h m = absurd (cc)
    go v d None l e h m = absurd (cc)

-- what is read of a header's buckets, of one or two
pub read_each : {A : Type 0} (f : Policed → A) (g : header.Bucket → A) (k : header.Bucket) (o : std.Option header.Bucket) → ((b : header.Bucket) → g b ≡ f (policed_of b)) → g k ∷ option_to_list (option_map g o) ≡ map f (policed_of k ∷ further o)
read_each f g k None e = rw (e k) refl
read_each f g k (Some l) e = rw (e k, e l) refl

-- nothing is unused of no interval
pub zeros_one : (k : Policer) (o : std.Option Policer) → ◌≡◌ {A = replay.Totals} (record { distortion = 0; source = 0; channel = 0; unused = 0 ∷ option_to_list (option_map (λ p. 0) o) }) (record { distortion = 0; source = 0; channel = 0; unused = map (λ b. 0) (bucket_is k ∷ option_to_list (option_map bucket_is o)) })
zeros_one k None = refl
zeros_one k (Some l) = refl
