-- Document 01's cases of Job A that are marked (m), those of planning, and cases of Job A with another delay or a second bucket, and of job E, worked out by hand: what is asked, and what document 01 says, or by document 02, E2, E3, E5 and E7, would; in the late order, which was document 01's, and in the early one of E10.
use Rattle.std.specs.Prelude.{ℕ, ◌≡◌, List, [], ◌∷◌, map, get_or, replicate}
use Rattle.base.specs.Answer.{Answer, refused, gives}
use Rattle.model.specs.Pins.{Call, pin, lift}
use Rattle.model.specs.Replay.{Totals}
use Rattle.model.specs.Best.{Order, late, early, Aim, total, even}
use Rattle.format.specs.JobA.{bytes_a, bytes_a8, bytes_e}
use Rattle.cases.specs.Replaying.{delayed, set_after}
use Rattle.planning.specs.Calls.{Planned, plan_call}
use Rattle.planning.specs.See.{see_call}

-- calls are made on the set that opening a job answers; then a plan is asked for with a table of so many words, all 9, and so many bytes for entries, all 7
pub record Question : Type 0 where
  pub job : List ℕ
  pub calls : List Call
  pub aim : Aim
  pub words : ℕ
  pub bytes : ℕ

-- the answer and the entries at exit
pub record Reply : Type 0 where
  pub answer : Answer Totals
  pub entries : List ℕ

unfoldable pub told : Planned → Reply
told p = record { answer = p.answer; entries = p.entries }

-- in an order
unfoldable pub reply : Order → Question → Reply
reply o q = told (plan_call q.job (set_after q.job q.calls) q.aim o (replicate q.words 9) (replicate q.bytes 7))

abbrev pub asks_for : Aim → List ℕ → List Call → ℕ → ℕ → Question
asks_for a b ks w n = record { job = b; calls = ks; aim = a; words = w; bytes = n }

abbrev pub asks_with : List ℕ → List Call → ℕ → ℕ → Question
asks_with b ks w n = asks_for total b ks w n

abbrev pub asks : List Call → ℕ → ℕ → Question
asks ks w n = asks_with bytes_a ks w n

unfoldable pub questions : List Question
questions =
    asks [] 80 9
    -- unit 1 pinned at 0, and lifted
    ∷ asks (pin 1 0 ∷ []) 80 9
    ∷ asks (pin 1 0 ∷ lift 1 ∷ []) 80 9
    -- unit 1 pinned at 1, which is worse, and lifted
    ∷ asks (pin 1 1 ∷ []) 80 9
    ∷ asks (pin 1 1 ∷ lift 1 ∷ []) 80 9
    -- both units pinned at 0
    ∷ asks (pin 1 0 ∷ pin 2 0 ∷ []) 80 9
    -- 79 words; 80 with eight bytes; both too few
    ∷ asks [] 79 9
    ∷ asks [] 80 8
    ∷ asks [] 79 8
    -- eight bytes where there is no plan either
    ∷ asks (pin 1 0 ∷ pin 2 0 ∷ []) 80 8
    -- more of both than is needed
    ∷ asks [] 81 12
    -- delay 2: unit 1 pinned at 1, which is worse, both units pinned at what is best, and a word too few
    ∷ asks_with (delayed 2) (pin 1 1 ∷ []) 100 12
    ∷ asks_with (delayed 2) (pin 1 0 ∷ pin 2 1 ∷ []) 100 12
    ∷ asks_with (delayed 2) [] 99 12
    -- the same with delay 0
    ∷ asks_with (delayed 0) (pin 1 1 ∷ []) 60 6
    ∷ asks_with (delayed 0) (pin 1 0 ∷ pin 2 1 ∷ []) 60 6
    ∷ asks_with (delayed 0) [] 59 6
    -- document 02, E5: a second bucket that never binds, one that forces another plan, a word too few for it, and one that leaves no plan
    ∷ asks_with (bytes_a8 3 4 0) [] 320 9
    ∷ asks_with (bytes_a8 1 2 0) [] 160 9
    ∷ asks_with (bytes_a8 1 2 0) [] 159 9
    ∷ asks_with (bytes_a8 0 1 0) [] 80 9
    -- document 02, E8: a drain of 0, in the second bucket, before the table that is too short
    ∷ asks_with (bytes_a8 0 0 0) [] 79 9
    -- document 02, E7: Job A, where even pictures are the same plan, and where there is none
    ∷ asks_for even bytes_a [] 80 9
    ∷ asks_for even bytes_a (pin 1 0 ∷ pin 2 0 ∷ []) 80 9
    -- job E with unit 2 at 31: the total takes 10 and 31, even pictures 30 and 12; with unit 2 pinned at 1 nothing is below 31, and the total decides
    ∷ asks_for total (bytes_e 12 31) [] 40 9
    ∷ asks_for even (bytes_e 12 31) [] 40 9
    ∷ asks_for even (bytes_e 12 31) (pin 2 1 ∷ []) 40 9
    -- at 30: the greatest is 30 either way, and the total decides; 10 in place of 12: so is the total, and the order decides
    ∷ asks_for even (bytes_e 12 30) [] 40 9
    ∷ asks_for even (bytes_e 10 30) [] 40 9
    -- the lists are looked at first by either aim
    ∷ asks_for even (bytes_e 12 31) [] 39 9
    ∷ asks_for even (bytes_e 12 31) [] 40 8
    ∷ []

abbrev pub says : ℕ → ℕ → ℕ → ℕ → List ℕ → Reply
says d s c u es = record { answer = gives (record { distortion = d; source = s; channel = c; unused = u ∷ [] }); entries = es }

abbrev pub says_two : ℕ → ℕ → ℕ → ℕ → ℕ → List ℕ → Reply
says_two d s c u v es = record { answer = gives (record { distortion = d; source = s; channel = c; unused = u ∷ v ∷ [] }); entries = es }

abbrev pub refuses : ℕ → List ℕ → Reply
refuses n es = record { answer = refused n; entries = es }

unfoldable pub replies : List Reply
replies =
    says 50 6 6 2 (0 ∷ 255 ∷ 255 ∷ 2 ∷ 0 ∷ 0 ∷ 1 ∷ 1 ∷ 0 ∷ [])
    ∷ says 50 6 6 2 (0 ∷ 255 ∷ 255 ∷ 2 ∷ 0 ∷ 0 ∷ 1 ∷ 1 ∷ 0 ∷ [])
    ∷ says 50 6 6 2 (0 ∷ 255 ∷ 255 ∷ 2 ∷ 0 ∷ 0 ∷ 1 ∷ 1 ∷ 0 ∷ [])
    ∷ says 70 4 4 2 (0 ∷ 255 ∷ 255 ∷ 1 ∷ 1 ∷ 0 ∷ 1 ∷ 1 ∷ 0 ∷ [])
    ∷ says 50 6 6 2 (0 ∷ 255 ∷ 255 ∷ 2 ∷ 0 ∷ 0 ∷ 1 ∷ 1 ∷ 0 ∷ [])
    ∷ refuses 13 (replicate 9 7)
    ∷ refuses 11 (replicate 9 7)
    ∷ refuses 12 (replicate 8 7)
    ∷ refuses 11 (replicate 8 7)
    ∷ refuses 12 (replicate 8 7)
    ∷ says 50 6 6 2 (0 ∷ 255 ∷ 255 ∷ 2 ∷ 0 ∷ 0 ∷ 1 ∷ 1 ∷ 0 ∷ 7 ∷ 7 ∷ 7 ∷ [])
    ∷ says 70 4 4 4 (0 ∷ 255 ∷ 255 ∷ 0 ∷ 255 ∷ 255 ∷ 1 ∷ 1 ∷ 0 ∷ 1 ∷ 1 ∷ 0 ∷ [])
    ∷ says 50 6 6 4 (0 ∷ 255 ∷ 255 ∷ 0 ∷ 255 ∷ 255 ∷ 2 ∷ 0 ∷ 0 ∷ 1 ∷ 1 ∷ 0 ∷ [])
    ∷ refuses 11 (replicate 12 7)
    ∷ says 70 4 4 0 (1 ∷ 1 ∷ 0 ∷ 1 ∷ 1 ∷ 0 ∷ [])
    ∷ says 50 6 6 0 (2 ∷ 0 ∷ 0 ∷ 1 ∷ 1 ∷ 0 ∷ [])
    ∷ refuses 11 (replicate 6 7)
    ∷ says_two 50 6 6 2 6 (0 ∷ 255 ∷ 255 ∷ 2 ∷ 0 ∷ 0 ∷ 1 ∷ 1 ∷ 0 ∷ [])
    ∷ says_two 50 6 6 0 0 (1 ∷ 255 ∷ 255 ∷ 1 ∷ 0 ∷ 0 ∷ 1 ∷ 1 ∷ 0 ∷ [])
    ∷ refuses 11 (replicate 9 7)
    ∷ refuses 13 (replicate 9 7)
    ∷ refuses 17 (replicate 9 7)
    ∷ says 50 6 6 2 (0 ∷ 255 ∷ 255 ∷ 2 ∷ 0 ∷ 0 ∷ 1 ∷ 1 ∷ 0 ∷ [])
    ∷ refuses 13 (replicate 9 7)
    ∷ says 41 6 6 0 (1 ∷ 255 ∷ 255 ∷ 1 ∷ 0 ∷ 0 ∷ 1 ∷ 1 ∷ 0 ∷ [])
    ∷ says 42 6 6 0 (1 ∷ 255 ∷ 255 ∷ 1 ∷ 1 ∷ 0 ∷ 1 ∷ 0 ∷ 0 ∷ [])
    ∷ says 41 6 6 0 (1 ∷ 255 ∷ 255 ∷ 1 ∷ 0 ∷ 0 ∷ 1 ∷ 1 ∷ 0 ∷ [])
    ∷ says 40 6 6 0 (1 ∷ 255 ∷ 255 ∷ 1 ∷ 0 ∷ 0 ∷ 1 ∷ 1 ∷ 0 ∷ [])
    ∷ says 40 6 6 0 (1 ∷ 255 ∷ 255 ∷ 1 ∷ 0 ∷ 0 ∷ 1 ∷ 1 ∷ 0 ∷ [])
    ∷ refuses 11 (replicate 9 7)
    ∷ refuses 12 (replicate 8 7)
    ∷ []

-- early, where the larger rate index wins (document 02, E10). Job A sends 4 grains in interval 1, as many as its decoder holds, none in interval 2 and 4 in interval 3; with unit 1 at 1 there are 2 grains left before interval 3, so that 2 arrive. With delay 2 interval 3 sends nothing either, and its drain goes by; without a delay the bucket holds 2 after interval 1 and would pass 3 with 4 more. A second bucket of 1, or job E's, takes no more than 2 grains an interval, so that both orders send the same
unfoldable pub early_replies : List Reply
early_replies =
    says 50 6 8 0 (2 ∷ 255 ∷ 255 ∷ 0 ∷ 0 ∷ 0 ∷ 2 ∷ 1 ∷ 0 ∷ [])
    ∷ says 50 6 8 0 (2 ∷ 255 ∷ 255 ∷ 0 ∷ 0 ∷ 0 ∷ 2 ∷ 1 ∷ 0 ∷ [])
    ∷ says 50 6 8 0 (2 ∷ 255 ∷ 255 ∷ 0 ∷ 0 ∷ 0 ∷ 2 ∷ 1 ∷ 0 ∷ [])
    ∷ says 70 4 6 0 (2 ∷ 255 ∷ 255 ∷ 0 ∷ 1 ∷ 0 ∷ 1 ∷ 1 ∷ 0 ∷ [])
    ∷ says 50 6 8 0 (2 ∷ 255 ∷ 255 ∷ 0 ∷ 0 ∷ 0 ∷ 2 ∷ 1 ∷ 0 ∷ [])
    ∷ refuses 13 (replicate 9 7)
    ∷ refuses 11 (replicate 9 7)
    ∷ refuses 12 (replicate 8 7)
    ∷ refuses 11 (replicate 8 7)
    ∷ refuses 12 (replicate 8 7)
    ∷ says 50 6 8 0 (2 ∷ 255 ∷ 255 ∷ 0 ∷ 0 ∷ 0 ∷ 2 ∷ 1 ∷ 0 ∷ 7 ∷ 7 ∷ 7 ∷ [])
    ∷ says 70 4 6 2 (2 ∷ 255 ∷ 255 ∷ 0 ∷ 255 ∷ 255 ∷ 0 ∷ 1 ∷ 0 ∷ 1 ∷ 1 ∷ 0 ∷ [])
    ∷ says 50 6 8 2 (2 ∷ 255 ∷ 255 ∷ 0 ∷ 255 ∷ 255 ∷ 0 ∷ 0 ∷ 0 ∷ 2 ∷ 1 ∷ 0 ∷ [])
    ∷ refuses 11 (replicate 12 7)
    ∷ says 70 4 6 0 (2 ∷ 1 ∷ 0 ∷ 1 ∷ 1 ∷ 0 ∷ [])
    ∷ says 50 6 6 0 (2 ∷ 0 ∷ 0 ∷ 1 ∷ 1 ∷ 0 ∷ [])
    ∷ refuses 11 (replicate 6 7)
    ∷ says_two 50 6 8 0 4 (2 ∷ 255 ∷ 255 ∷ 0 ∷ 0 ∷ 0 ∷ 2 ∷ 1 ∷ 0 ∷ [])
    ∷ says_two 50 6 6 0 0 (1 ∷ 255 ∷ 255 ∷ 1 ∷ 0 ∷ 0 ∷ 1 ∷ 1 ∷ 0 ∷ [])
    ∷ refuses 11 (replicate 9 7)
    ∷ refuses 13 (replicate 9 7)
    ∷ refuses 17 (replicate 9 7)
    ∷ says 50 6 8 0 (2 ∷ 255 ∷ 255 ∷ 0 ∷ 0 ∷ 0 ∷ 2 ∷ 1 ∷ 0 ∷ [])
    ∷ refuses 13 (replicate 9 7)
    ∷ says 41 6 6 0 (1 ∷ 255 ∷ 255 ∷ 1 ∷ 0 ∷ 0 ∷ 1 ∷ 1 ∷ 0 ∷ [])
    ∷ says 42 6 6 0 (1 ∷ 255 ∷ 255 ∷ 1 ∷ 1 ∷ 0 ∷ 1 ∷ 0 ∷ 0 ∷ [])
    ∷ says 41 6 6 0 (1 ∷ 255 ∷ 255 ∷ 1 ∷ 0 ∷ 0 ∷ 1 ∷ 1 ∷ 0 ∷ [])
    ∷ says 40 6 6 0 (1 ∷ 255 ∷ 255 ∷ 1 ∷ 0 ∷ 0 ∷ 1 ∷ 1 ∷ 0 ∷ [])
    ∷ says 40 6 6 0 (1 ∷ 255 ∷ 255 ∷ 1 ∷ 0 ∷ 0 ∷ 1 ∷ 1 ∷ 0 ∷ [])
    ∷ refuses 11 (replicate 9 7)
    ∷ refuses 12 (replicate 8 7)
    ∷ []

-- one computed test of the whole table in each order
pub record Cases : Type 0 where
  pub late_are : map (reply late) questions ≡ replies
  pub early_are : map (reply early) questions ≡ early_replies

-- Single words of the table at exit: a plan is asked for as above, and then the word in a place of the list that was lent.
pub record WordQuestion : Type 0 where
  pub asked : Question
  pub place : ℕ

unfoldable pub word_after : WordQuestion → ℕ
word_after q = get_or (plan_call q.asked.job (set_after q.asked.job q.asked.calls) q.asked.aim late (replicate q.asked.words 9) (replicate q.asked.bytes 7)).table q.place 0

abbrev pub word_of : Question → ℕ → WordQuestion
word_of q i = record { asked = q; place = i }

-- Job A has words for b up to 4 and l up to 3, so that t, b and l have the place (t × 5 + b) × 4 + l; job E for l up to 1: (t × 5 + b) × 2 + l. With the second bucket of size 0 the places are Job A's
unfoldable pub word_questions : List WordQuestion
word_questions =
    -- Job A, at the start: the plan's 50. With unit 1 pinned at 1 it is 70
    word_of (asks [] 80 9) 0
    ∷ word_of (asks (pin 1 1 ∷ []) 80 9) 0
    -- t 1, b 0, l 3: the bucket takes 2 grains an interval, so that both units have 2, at 30 and 40
    ∷ word_of (asks [] 80 9) 23
    -- t 1, b 0, l 3 with unit 1 pinned at 0: its 4 grains never arrive
    ∷ word_of (asks (pin 1 0 ∷ []) 80 9) 23
    -- t 2, b 4, l 3: unit 2 has 2 of the 4 grains, at 40, and its 5 do not fit
    ∷ word_of (asks [] 80 9) 59
    -- t 3: nothing is left to decode, in the first place and the last
    ∷ word_of (asks [] 80 9) 60
    ∷ word_of (asks [] 80 9) 79
    -- the word behind the table, and a table that is a word too short
    ∷ word_of (asks [] 81 9) 80
    ∷ word_of (asks [] 79 9) 0
    -- job E with unit 2 at 31, t 2, b 0, l 0: only 2 grains can arrive, so that unit 2 has 2, at 31. For even pictures the limit is 30, which leaves that choice out
    ∷ word_of (asks_for total (bytes_e 12 31) [] 40 9) 20
    ∷ word_of (asks_for even (bytes_e 12 31) [] 40 9) 20
    -- at the start: the totals of the plans, 10 and 31, and for even pictures 30 and 12; not the greatest, 30
    ∷ word_of (asks_for total (bytes_e 12 31) [] 40 9) 0
    ∷ word_of (asks_for even (bytes_e 12 31) [] 40 9) 0
    -- t 1, b 2, l 0, where both plans are after interval 1: 2 grains arrive in each interval that is left, as many as both plans have from there, so that the words are the same
    ∷ word_of (asks_for total (bytes_e 12 31) [] 40 9) 14
    ∷ word_of (asks_for even (bytes_e 12 31) [] 40 9) 14
    -- the word behind the table
    ∷ word_of (asks_for even (bytes_e 12 31) [] 41 9) 40
    -- a second bucket of size 0 and drain 1 lets no positive rate through. From b 0 there is no plan, 13, and even pictures leave the full table: at the start none
    ∷ word_of (asks_for even (bytes_a8 0 1 0) [] 80 9) 0
    -- and at t 1, b 4, l 0 the sum of 30 and 40, where the greatest is 40: nothing arrives any more, so that unit 1 at 10 takes all 4 grains and leaves none for unit 2, and both have 2
    ∷ word_of (asks_for total (bytes_a8 0 1 0) [] 80 9) 36
    ∷ word_of (asks_for even (bytes_a8 0 1 0) [] 80 9) 36
    -- the same with both units pinned at 1, which is that plan, and with unit 1 pinned at 0
    ∷ word_of (asks_for even (bytes_a8 0 1 0) (pin 1 1 ∷ pin 2 1 ∷ []) 80 9) 36
    ∷ word_of (asks_for even (bytes_a8 0 1 0) (pin 1 0 ∷ []) 80 9) 36
    ∷ []

unfoldable pub words_expected : List ℕ
words_expected =
    50 ∷ 70 ∷ 70 ∷ 4294967295 ∷ 40 ∷ 0 ∷ 0 ∷ 9 ∷ 9
    ∷ 31 ∷ 4294967295 ∷ 41 ∷ 42 ∷ 41 ∷ 42 ∷ 9
    ∷ 4294967295 ∷ 70 ∷ 70 ∷ 70 ∷ 4294967295 ∷ []

-- one computed test of these words
abbrev pub WordCases : Type 0
WordCases = map word_after word_questions ≡ words_expected

-- Calls that see (document 02, E9): calls are made on the set that opening a job answers; then a pin or a lift sees, lent this table.
pub record Look : Type 0 where
  pub job : List ℕ
  pub calls : List Call
  pub call : Call
  pub table : List ℕ

unfoldable pub look : Look → Answer ℕ
look q = (see_call q.job (set_after q.job q.calls) q.call q.table).answer

abbrev pub sees_at : List ℕ → List Call → Call → List ℕ → Look
sees_at b ks k t = record { job = b; calls = ks; call = k; table = t }

-- Job A's table with pins
unfoldable pub own_table : List Call → List ℕ
own_table ks = (plan_call bytes_a (set_after bytes_a ks) total late (replicate 80 9) (replicate 9 7)).table

unfoldable pub sights : List Look
sights =
    -- unit 1 pinned at 1, which is worse, and lifted; unit 2 pinned at 0, whose 5 grains the decoder never holds
    sees_at bytes_a [] (pin 1 1) (own_table [])
    ∷ sees_at bytes_a (pin 1 1 ∷ []) (lift 1) (own_table (pin 1 1 ∷ []))
    ∷ sees_at bytes_a [] (pin 2 0) (own_table [])
    -- a word too few, and 7 comes before that
    ∷ sees_at bytes_a [] (pin 1 1) (replicate 79 0)
    ∷ sees_at bytes_a [] (pin 3 0) (replicate 79 0)
    -- any table: without a delay layer 0 follows from layer 1, where 512,000,000 is a distortion and one more is none. With delay 1 layer 1 has 512,000,030 then, which layer 0 reads as none
    ∷ sees_at (delayed 0) [] (pin 1 1) (replicate 60 512000000)
    ∷ sees_at (delayed 0) [] (pin 1 1) (replicate 60 512000001)
    ∷ sees_at bytes_a [] (pin 1 1) (replicate 80 512000000)
    ∷ []

unfoldable pub sights_told : List (Answer ℕ)
sights_told =
    gives 70 ∷ gives 50 ∷ gives 4294967295
    ∷ refused 11 ∷ refused 7
    ∷ gives 512000030 ∷ gives 4294967295 ∷ gives 4294967295 ∷ []

-- one computed test of them
abbrev pub SeeCases : Type 0
SeeCases = map look sights ≡ sights_told
