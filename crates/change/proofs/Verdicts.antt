-- What refuses a change for a job that the set matches: the old plan, the contract's three, then the rest.
use Prim.Native.Nat.{ℕ, suc}
use mathlib.Core.Path.{◌≡◌, refl, sym, ap, ◌∙◌}
use mathlib.Core.Bool.{true, false}
use mathlib.Core.Option.{Option, some}
use mathlib.Core.List.{List, [], ◌∷◌, map, zip_with}
use native.Mathlib.Omega.{arith}
use lib.ListN.{length, length-map}
use Rattle.base.specs.Refusals.{refusal}
use Rattle.base.proofs.Refusals.{refusal_past, refusal_here}
use Rattle.model.specs.Job.{Job, on_line}
use Rattle.model.specs.Pins.{PinMap}
use Rattle.format.specs.Limits.{each_kept}
use Rattle.format.proofs.Limits.{all_fit}
use Rattle.format.specs.JobBytes.{Policed, Header, bucket_of, opening, drain_limits, rate_limits, job_in, Opens}
use Rattle.format.proofs.Opened.{decoder_is}
use Rattle.line.specs.declared.Line as code
use Rattle.table.specs.Answers.{job_on}
use Rattle.replaying.specs.Entries.{shaped}
use Rattle.replay.proofs.Levels.{bucket_count}
use Rattle.contract.specs.Answers.{LineUnder}
use Rattle.changing.specs.NewContract.{Contract, policed_under, contract_limits, line_under, under}
use Rattle.changing.specs.Calls.{rest_tests, change_tests}

-- a contract that is offered has a size and a drain for each bucket
pub counts : (n : ℕ) (c : Contract) → each_kept (contract_limits n c) ≡ true → (length c.sizes ≡ n) × (length c.drains ≡ n)
unfolding contract_limits
counts n c e = let k = all_fit _ e in (omega (arith, k.0), omega (arith, k.1.0))

policed_count : (ss ds : List ℕ) → length ss ≡ length ds → length {A = Policed} (zip_with (λ s d. record { size = s; drain = d; fill = 0 }) ss ds) ≡ length ss
unfolding zip_with
policed_count [] ds e = refl
policed_count (s ∷ ss) [] e = absurd (omega arith)
policed_count (s ∷ ss) (d ∷ ds) e = ap suc (policed_count ss ds (omega arith))

pub buckets_under : (n : ℕ) (c : Contract) → length c.sizes ≡ n → length c.drains ≡ n → length (map bucket_of (policed_under c)) ≡ n
unfolding policed_under
buckets_under n c e f = length-map (policed_under c) bucket_of ∙ policed_count c.sizes c.drains (e ∙ sym f) ∙ e

module _ (b : List ℕ) (h : Header) (o : Opens b h) (m : PinMap) (old : List ℕ) (s : ℕ) (c : Contract) (table entries : ℕ) where
  abbrev J : Job
  J = job_in b

  pub over_same : (l : code.Line) → LineUnder h c l → job_on b l ≡ under J c
  over_same l u = ap (on_line J) (u.is ∙ unfold line_under in (rw (decoder_is b h o)))

  pub is_14 : shaped h old ≡ false → some 14 ≡ refusal (change_tests J m old s c table entries)
  unfolding change_tests
  is_14 e = sym (refusal_here _ _ (rw o.header_is e))

  module _ (shape : shaped h old ≡ true) where
    pub is_3 : (n : ℕ) → n ≡ length h.buckets → each_kept (contract_limits n c) ≡ false → some 3 ≡ refusal (change_tests J m old s c table entries)
    unfolding change_tests
    is_3 n q e = sym (refusal_past _ _ (rw o.header_is shape) ∙ refusal_here _ _ (rw (bucket_count b h o ∙ sym q) e))

    module _ (n : ℕ) (q : n ≡ length h.buckets) (offered : each_kept (contract_limits n c) ≡ true) where
      pub is_17 : each_kept (drain_limits opening (policed_under c)) ≡ false → some 17 ≡ refusal (change_tests J m old s c table entries)
      unfolding change_tests
      is_17 e = sym (refusal_past _ _ (rw o.header_is shape) ∙ refusal_past _ _ (rw (bucket_count b h o ∙ sym q) offered) ∙ refusal_here _ _ e)

      module _ (draining : each_kept (drain_limits opening (policed_under c)) ≡ true) where
        pub is_4 : each_kept (rate_limits 0 c.rates) ≡ false → some 4 ≡ refusal (change_tests J m old s c table entries)
        unfolding change_tests
        is_4 e = sym (refusal_past _ _ (rw o.header_is shape) ∙ refusal_past _ _ (rw (bucket_count b h o ∙ sym q) offered) ∙ refusal_past _ _ draining ∙ refusal_here _ _ e)

        pub is_rest : each_kept (rate_limits 0 c.rates) ≡ true → (l : code.Line) → LineUnder h c l → (r : Option ℕ) → r ≡ refusal (rest_tests J (job_on b l) m old s table entries) → r ≡ refusal (change_tests J m old s c table entries)
        unfolding change_tests
        is_rest e l u r w = w ∙ ap (λ (k : Job). refusal (rest_tests J k m old s table entries)) (over_same l u) ∙ sym (refusal_past _ _ (rw o.header_is shape) ∙ refusal_past _ _ (rw (bucket_count b h o ∙ sym q) offered) ∙ refusal_past _ _ draining ∙ refusal_past _ _ e)
