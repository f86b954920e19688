-- The bytes of a programme: what is seen of them before it is planned.
use Prim.Native.Nat.{ℕ, ◌+◌, ◌≤◌, ◌<◌}
use mathlib.Core.Path.{◌≡◌, refl, sym, ap, ◌∙◌}
use mathlib.Core.Bool.{Bool, true, false, beq}
use mathlib.Core.List.{List, [], ◌∷◌, map}
use lib.Dec.{eqb}
use lib.ListN.{length, take, drop, length-map}
use borrow.Author.Tests.{eqb-true, eq-eqb, ne_eqb, le-leb, lt-leb}
use Rattle.std.specs.Prelude.{Some, None, Err}
use Rattle.std.specs.Prelude as std
use Rattle.std.specs.Option.{option_map_or, option_to_list, is_some}
use Rattle.base.specs.Refusals.{test, guarded}
use Rattle.base.proofs.Refusals.{guarded_past, guarded_here, guarded_last}
use Rattle.model.specs.Job.{Job, Bucket}
use Rattle.format.specs.Parser.{refused, took, on_took}
use Rattle.format.specs.JobBytes as format
use Rattle.format.specs.JobBytes.{bucket_of, parse, opening, job_in, Opens}
use Rattle.format.proofs.Opened.{held_job, opens_by, buckets_are}
use Rattle.header.specs.declared.Header.{Header}
use Rattle.header.specs.declared.Bucket as header
use Rattle.header.specs.Answers.{plain, policed_of, further}
use Rattle.job.proofs.Answers.{Held}
use Rattle.planner.specs.declared.BucketLevels.{BucketLevels}
use Rattle.planner.specs.Answers.{levels_of_buckets}
use Rattle.playlists.specs.Calls as calls
use Rattle.playlists.specs.Calls.{Standing, Turn, part, as_many, behind_tests, plan_turn, part_turn, stops}
use Rattle.playlist.specs.declared.Standing as code
use Rattle.header.specs.declared.refusal.Refusal.{Refusal}
use Rattle.header.specs.declared.refusal.Refusal.TheVariants as refusals
use Rattle.header.specs.Refusals.{number}
use Rattle.playlist.specs.Answers.{programme, carries, stands, turned, starts_at, alike, Opened, carried_by}

-- as many levels as buckets: one of each, or two
pub same_count : {A : Type 0} (a : A) (o : std.Option A) (b : header.Bucket) (p : std.Option header.Bucket) → eqb (length (a ∷ option_to_list o)) (length (policed_of b ∷ further p)) ≡ beq (is_some o) (is_some p)
same_count a (Some o) b (Some p) = refl
same_count a (Some o) b None = refl
same_count a None b (Some p) = refl
same_count a None b None = refl

-- levels that are carried are as many as the buckets
many : (j : Job) (o : std.Option BucketLevels) (n : ℕ) → length j.line.buckets ≡ n → as_many j (carried_by o) ≡ option_map_or (λ l. eqb (length (levels_of_buckets l)) n) o true
unfolding as_many
many j None n e = refl
many j (Some l) n e = rw e refl

count_kept : (o : std.Option BucketLevels) (h : format.Header) → option_map_or (λ l. eqb (length (levels_of_buckets l)) (length h.buckets)) o true ≡ true → length (option_map_or levels_of_buckets o (map (λ k. k.fill) h.buckets)) ≡ length h.buckets
count_kept (Some l) h e = eqb-true (length (levels_of_buckets l)) (length h.buckets) e
count_kept None h e = length-map h.buckets (λ k. k.fill)

module _ (b : List ℕ) (s : code.Standing) (table entries totals : List ℕ) where
  abbrev st : Standing
  st = stands s table entries totals

  pub part_unread : (n : Refusal) → parse opening b ≡ refused (number n) → turned (Err n) s table entries totals ≡ part_turn b st
  unfolding turned part_turn on_took
  part_unread n e = rw e

  -- it opens
  module _ (h : Header) (k : ℕ) (g : Held (parse opening b) (plain h) k) where
    abbrev J : Job
    J = job_in b

    took_is : parse opening b ≡ took J k
    took_is = g.is ∙ ap (λ (i : Job). took i k) (sym (held_job opening b g.job k g.is))

    opens : Opens b (plain h)
    opens = opens_by opening b (plain h) g.job k g.is g.header_is

    count_is : length J.line.buckets ≡ length (plain h).buckets
    count_is = ap (λ (ks : List Bucket). length ks) (buckets_are b (plain h) opens) ∙ length-map (plain h).buckets bucket_of

    many_is : (t : Bool) → alike (plain h) s ≡ t → as_many J st.carried ≡ t
    unfolding stands carries
    many_is t e = many J s.levels (length (plain h).buckets) count_is ∙ e

    abbrev work : Turn
    work = plan_turn b J st

    seen : part_turn b st ≡ guarded (λ n. stops n st) (behind_tests J k (length b) st.carried) work
    unfolding part_turn on_took
    seen = rw took_is

    pub part_left : (k ≡ length b → ⊥) → turned (Err refusals.Programme) s table entries totals ≡ part_turn b st
    unfolding turned behind_tests
    part_left e = sym (seen ∙ guarded_here (λ n. stops n st) _ _ work (ne_eqb k (length b) e))

    module _ (e : k ≡ length b) where
      past : part_turn b st ≡ guarded (λ n. stops n st) (test 22 (as_many J st.carried) ∷ []) work
      unfolding behind_tests
      past = seen ∙ guarded_past (λ n. stops n st) _ _ work (eq-eqb k (length b) e)

      pub part_others : alike (plain h) s ≡ false → turned (Err refusals.Programme) s table entries totals ≡ part_turn b st
      unfolding turned
      part_others q = sym (past ∙ guarded_here (λ n. stops n st) _ _ work (many_is false q))

      module _ (q : alike (plain h) s ≡ true) where
        pub opened : Opened b (plain h) s
        unfolding starts_at
        opened = record { opens = opens; drains = (k, took_is); alike = count_kept s.levels (plain h) q }

        pub part_opened : plan_turn b J st ≡ part_turn b st
        part_opened = sym (past ∙ guarded_last (λ n. stops n st) _ work (many_is true q))

-- one programme of the list
module _ (b : List ℕ) (first size : ℕ) (s : code.Standing) (table entries totals : List ℕ) where
  abbrev between : Standing
  between = stands s table entries totals

  pub turn_outside : length b < first + size → turned (Err refusals.Programme) s table entries totals ≡ calls.turn b (programme first size) between
  unfolding turned calls.turn
  turn_outside h = sym (guarded_here (λ n. stops n between) _ _ _ (lt-leb (first + size) (length b) h))

  pub turn_inside : first + size ≤ length b → part_turn (take size (drop first b)) between ≡ calls.turn b (programme first size) between
  unfolding calls.turn part
  turn_inside h = sym (guarded_last (λ n. stops n between) _ _ (le-leb (first + size) (length b) h))
