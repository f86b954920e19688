-- A playlist (document 02, E14), worked out by hand: Job A twice. The decoder lets no plan carry more than choices 0 and 1 need, 6 grains; the first of these plans in the late order sends 0 4 2. From an empty bucket its first interval leaves all its drain of 2 unused, and the bucket ends at 2. From there the same plan leaves nothing unused, and ends at 2 again.
use Rattle.std.specs.Prelude.{ℕ, ◌≡◌, List, [], ◌∷◌, ◌++◌, replicate, set}
use Rattle.format.specs.JobA.{bytes_a, bytes_a8}
use Rattle.playlists.specs.Calls.{Outcome, finished, refused_list, refused_at, Played, playlist_call}

-- the answer, the entries and the totals
pub record Heard : Type 0 where
  pub answer : Outcome
  pub entries : List ℕ
  pub totals : List ℕ

unfoldable pub heard : Played → Heard
heard r = record { answer = r.answer; entries = r.entries; totals = r.totals }

-- with a table of so many words, all 9, so many bytes for entries, all 7, and so many totals, all 1
unfoldable pub listen_with : ℕ → List ℕ → List ℕ → ℕ → ℕ → Heard
listen_with words b ns bytes totals = heard (playlist_call b ns (replicate words 9) (replicate bytes 7) (replicate totals 1))

abbrev pub listen : List ℕ → List ℕ → ℕ → ℕ → Heard
listen b ns bytes totals = listen_with 80 b ns bytes totals

-- Job A with another field of its header, by its place: byte 10 is K, byte 16 the level of the bucket at the start
abbrev pub altered : ℕ → ℕ → List ℕ
altered at x = set bytes_a at x

abbrev pub plan : List ℕ
plan = 0 ∷ 255 ∷ 255 ∷ 2 ∷ 0 ∷ 0 ∷ 1 ∷ 1 ∷ 0 ∷ []

abbrev pub first_totals : List ℕ
first_totals = 50 ∷ 6 ∷ 6 ∷ 2 ∷ 0 ∷ []

abbrev pub second_totals : List ℕ
second_totals = 50 ∷ 6 ∷ 6 ∷ 0 ∷ 0 ∷ []

pub record PlaylistCases : Type 0 where
  -- behind each other, and over the same bytes
  pub both : listen (bytes_a ++ bytes_a) (0 ∷ 64 ∷ 64 ∷ 64 ∷ []) 19 11 ≡ record { answer = finished; entries = plan ++ plan ++ (7 ∷ []); totals = first_totals ++ second_totals ++ (1 ∷ []) }
  pub overlap : listen bytes_a (0 ∷ 64 ∷ 0 ∷ 64 ∷ []) 18 10 ≡ record { answer = finished; entries = plan ++ plan; totals = first_totals ++ second_totals }
  -- the second passes the slice, has a byte behind its job, or no room for its plan: the first plan stays
  pub passes : listen bytes_a (0 ∷ 64 ∷ 1 ∷ 64 ∷ []) 18 10 ≡ record { answer = refused_at 2 22; entries = plan ++ replicate 9 7; totals = first_totals ++ replicate 5 1 }
  pub behind : listen (bytes_a ++ (0 ∷ [])) (0 ∷ 64 ∷ 0 ∷ 65 ∷ []) 18 10 ≡ record { answer = refused_at 2 22; entries = plan ++ replicate 9 7; totals = first_totals ++ replicate 5 1 }
  pub no_room : listen bytes_a (0 ∷ 64 ∷ 0 ∷ 64 ∷ []) 17 10 ≡ record { answer = refused_at 2 12; entries = plan ++ replicate 8 7; totals = first_totals ++ replicate 5 1 }
  -- and no room for its totals, or the first has none; 11 comes before
  pub short_totals : listen bytes_a (0 ∷ 64 ∷ 0 ∷ 64 ∷ []) 18 9 ≡ record { answer = refused_at 2 12; entries = plan ++ replicate 9 7; totals = first_totals ++ replicate 4 1 }
  pub shorter_totals : listen bytes_a (0 ∷ 64 ∷ []) 9 4 ≡ record { answer = refused_at 1 12; entries = replicate 9 7; totals = replicate 4 1 }
  pub both_short : listen_with 79 bytes_a (0 ∷ 64 ∷ []) 9 4 ≡ record { answer = refused_at 1 11; entries = replicate 9 7; totals = replicate 4 1 }
  -- the first starts from its own level, 2
  pub own_level : listen (altered 16 2) (0 ∷ 64 ∷ []) 9 5 ≡ record { answer = finished; entries = plan; totals = second_totals }
  -- a level of 2 is carried, and the second bucket holds 2, or 1
  pub just_fits : listen (bytes_a ++ altered 10 2) (0 ∷ 64 ∷ 64 ∷ 64 ∷ []) 18 10 ≡ record { answer = finished; entries = plan ++ plan; totals = first_totals ++ second_totals }
  pub just_over : listen (bytes_a ++ altered 10 1) (0 ∷ 64 ∷ 64 ∷ 64 ∷ []) 18 10 ≡ record { answer = refused_at 2 20; entries = plan ++ replicate 9 7; totals = first_totals ++ replicate 5 1 }
  -- a third programme with two buckets; a table that is too short
  pub other_buckets : listen (bytes_a ++ bytes_a8 3 2 0) (0 ∷ 64 ∷ 0 ∷ 64 ∷ 64 ∷ 70 ∷ []) 27 15 ≡ record { answer = refused_at 3 22; entries = plan ++ plan ++ replicate 9 7; totals = first_totals ++ second_totals ++ replicate 5 1 }
  pub short_table : listen_with 79 bytes_a (0 ∷ 64 ∷ []) 9 5 ≡ record { answer = refused_at 1 11; entries = replicate 9 7; totals = replicate 5 1 }
  -- no list: nothing is written
  pub none_at_all : listen bytes_a [] 9 5 ≡ record { answer = refused_list 21; entries = replicate 9 7; totals = replicate 5 1 }
  pub odd : listen bytes_a (0 ∷ 64 ∷ 0 ∷ []) 9 5 ≡ record { answer = refused_list 21; entries = replicate 9 7; totals = replicate 5 1 }
