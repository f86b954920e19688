-- Fields there and back: numbers and their bytes, values and their fields.
use Prim.Native.Nat.{ℕ, zero, suc, ◌+◌, ◌*◌, ◌^◌, ◌/◌, ◌%◌, ◌≤◌, ◌<◌}
use mathlib.Core.Path.{◌≡◌, refl, sym, ap, ap₂, ◌∙◌}
use mathlib.Core.List.{List, [], ◌∷◌, ◌++◌, append_assoc}
use native.Mathlib.Omega.{arith}
use native.Mathlib.Nat.{pow-suc, mod-add-div, mod-eq_of_lt, div-eq_of_lt, add-mul-mod_self_left, add-mul-div_left, div-lt_iff_lt-mul}
use lib.ListN.{length, take, drop, length-append, length-drop}
use lib.Seq.{take_at, drop_at, take-add, length-take-le}
use Rattle.format.specs.Fields.{number, bytes, total, fields, spelled, Fit, Bytes, end, byte}
use Rattle.format.specs.Fields as F

pub bytes_length : (w n : ℕ) → length (bytes w n) ≡ w
unfolding bytes
bytes_length zero n = refl
bytes_length (suc w) n = ap suc (bytes_length w (n / 256))

-- a number that fits its width
pub number_bytes : (w n : ℕ) → n < 256 ^ w → number (bytes w n) ≡ n
unfolding number bytes
number_bytes zero n h = omega arith
number_bytes (suc w) n h =
    let p : n < 256 ^ w * 256 = rw pow-suc at h in
    let q : n / 256 < 256 ^ w = (div-lt_iff_lt-mul {k = 256} {x = n} {y = 256 ^ w} (omega arith)).1 p in
    rw (number_bytes w (n / 256) q) (mod-add-div n 256)

pub bytes_number : (l : List ℕ) → Bytes l → bytes (length l) (number l) ≡ l
unfolding number bytes
bytes_number [] B = refl
bytes_number (x ∷ xs) (byte h B) =
    let m : (x + 256 * number xs) % 256 ≡ x = add-mul-mod_self_left x 256 (number xs) ∙ mod-eq_of_lt h in
    let q : x / 256 ≡ 0 = div-eq_of_lt h in
    let d : (x + 256 * number xs) / 256 ≡ number xs = omega (arith, add-mul-div_left x (number xs) {y = 256} (omega arith)) in
    ap₂ (λ (a : ℕ) (l : List ℕ). a ∷ l) m (ap (bytes (length xs)) d ∙ bytes_number xs B)

pub number_fits : (l : List ℕ) → Bytes l → number l < 256 ^ length l
unfolding number
number_fits [] B = omega arith
number_fits (x ∷ xs) (byte h B) = rw pow-suc (omega (arith, number_fits xs B))

pub bytes_take : (n : ℕ) (l : List ℕ) → Bytes l → Bytes (take n l)
bytes_take zero l B = end
bytes_take (suc n) [] B = end
bytes_take (suc n) (x ∷ xs) (byte h B) = byte h (bytes_take n xs B)

pub bytes_drop : (n : ℕ) (l : List ℕ) → Bytes l → Bytes (drop n l)
bytes_drop zero l B = B
bytes_drop (suc n) [] B = end
bytes_drop (suc n) (x ∷ xs) (byte h B) = bytes_drop n xs B

-- values that fit their widths
pub spelled_length : {ws vs : List ℕ} → Fit ws vs → length (spelled ws vs) ≡ total ws
unfolding spelled total
spelled_length F.no_more = refl
spelled_length (F.one_more {w = w} {v = v} {ws = ws} {vs = vs} h t) = length-append (bytes w v) (spelled ws vs) ∙ ap₂ ◌+◌ (bytes_length w v) (spelled_length t)

pub fields_spelled : {ws vs : List ℕ} → Fit ws vs → (rest : List ℕ) → fields ws (spelled ws vs ++ rest) ≡ vs
unfolding spelled fields
fields_spelled F.no_more rest = refl
fields_spelled (F.one_more {w = w} {v = v} {ws = ws} {vs = vs} h t) rest =
    let a : (bytes w v ++ spelled ws vs) ++ rest ≡ bytes w v ++ (spelled ws vs ++ rest) = append_assoc (bytes w v) (spelled ws vs) rest in
    rw (a, take_at (bytes w v) (spelled ws vs ++ rest) w (bytes_length w v), drop_at (bytes w v) (spelled ws vs ++ rest) w (bytes_length w v), number_bytes w v h) (ap (λ (l : List ℕ). v ∷ l) (fields_spelled t rest))

-- fields that are wholly there
pub spelled_fields : (ws b : List ℕ) → Bytes b → total ws ≤ length b → spelled ws (fields ws b) ≡ take (total ws) b
unfolding spelled fields total
spelled_fields [] b B h = refl
spelled_fields (w ∷ ws) b B h =
    let l : length (take w b) ≡ w = length-take-le w b (omega arith) in
    let k : total ws ≤ length (drop w b) = rw length-drop (omega arith) in
    let n : bytes w (number (take w b)) ≡ take w b = ap (λ (i : ℕ). bytes i (number (take w b))) (sym l) ∙ bytes_number (take w b) (bytes_take w b B) in
    ap₂ ◌++◌ n (spelled_fields ws (drop w b) (bytes_drop w b B) k) ∙ sym (take-add w (total ws) b)

pub fit_fields : (ws b : List ℕ) → Bytes b → total ws ≤ length b → Fit ws (fields ws b)
unfolding fields total
fit_fields [] b B h = F.no_more
fit_fields (w ∷ ws) b B h =
    let l : length (take w b) ≡ w = length-take-le w b (omega arith) in
    let k : total ws ≤ length (drop w b) = rw length-drop (omega arith) in
    let n : number (take w b) < 256 ^ w = rw l at (number_fits (take w b) (bytes_take w b B)) in
    F.one_more n (fit_fields ws (drop w b) (bytes_drop w b B) k)
