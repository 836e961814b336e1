-- Where the bytes of some blocks stand in a store of whole blocks.
use Rattle.std.proofs.Common.{◌≡◌, ℕ, suc, ◌+◌, ◌-◌, ◌*◌, ◌/◌, ◌%◌, ◌<◌, ◌≤◌, cond, ltb, List, [], ◌∷◌, length, get_or, take, drop, IfSome as found, Some, None, Option, sym, refl, ap, ◌∙◌, ⊎_elim, arith, length-take, drop-cons, drop-drop}
use native.Mathlib.Nat.{mod-add-div'}
use Rattle.std.proofs.lemmas.List.{drop_all, drop-take}
use Rattle.std.proofs.lemmas.Bool.{cases_lt, lt-ltb, le-ltb}
use Rattle.drive.specs.Images.{blocks_in, blocks_from, byte_at, first_of}

-- the byte at a place of a list
read_at : (xs : List ℕ) (i : ℕ) → first_of (drop i xs) ≡ cond (ltb i (length xs)) (Some (get_or xs i 0)) None
read_at xs i = ⊎_elim
    (λ (h : i < length xs). rw (lt-ltb i (length xs) h, drop-cons xs i 0 h))
    (λ (h : length xs ≤ i). rw (le-ltb i (length xs) h, drop_all i xs h))
    (cases_lt i (length xs))

first_take : (j : ℕ) (xs : List ℕ) → first_of (take (suc j) xs) ≡ first_of xs
first_take j [] = refl
first_take j (x ∷ xs) = refl

-- past its blocks an answer has no byte
pub none_left : (store : List ℕ) (b n k : ℕ) → n * 512 ≤ k → None ≡ first_of (drop k (blocks_from store b n))
none_left store b n k h =
    let from = drop (b * 512) store in
    let short : length (take (n * 512) from) ≤ k = simp length-take (omega arith) in
    sym (ap first_of (drop_all k (take (n * 512) from) short))

-- among its blocks, the bytes of an answer are those of the store
within : (store : List ℕ) (b n k : ℕ) → k < n * 512 → first_of (drop k (blocks_from store b n)) ≡ first_of (drop (b * 512 + k) store)
within store b n k h =
    let from = drop (b * 512) store in
    let j = n * 512 - (k + 1) in
    let all : n * 512 ≡ k + suc j = omega arith in
    ap (λ m. first_of (drop k (take m from))) all
    ∙ ap first_of (drop-take k (suc j) from)
    ∙ first_take j (drop k from)
    ∙ ap first_of (drop-drop k (b * 512) store)

-- the byte number k of some blocks from block b on is the one at place k % 512 of block b + k / 512
pub stands : (store : List ℕ) (b n k : ℕ) → length store ≡ blocks_in store * 512 → k < n * 512 → byte_at store (b + k / 512) (k % 512) ≡ first_of (drop k (blocks_from store b n))
stands store b n k whole h =
    let q = k / 512 in
    let r = k % 512 in
    let here : (b + q) * 512 + r ≡ b * 512 + k = omega (arith, mod-add-div' k 512) in
    let place : r < 512 = omega arith in
    let found = within store b n k h ∙ read_at store (b * 512 + k) in
    ⊎_elim
    (λ (lt : b * 512 + k < length store).
    let in_block : b + q < blocks_in store = omega (arith, mod-add-div' k 512) in
    rw (lt-ltb (b + q) (blocks_in store) in_block, lt-ltb r 512 place, here) (sym (rw (lt-ltb (b * 512 + k) (length store) lt) at found)))
    (λ (ge : length store ≤ b * 512 + k).
    let past : blocks_in store ≤ b + q = omega (arith, mod-add-div' k 512) in
    rw (le-ltb (b + q) (blocks_in store) past) (sym (rw (le-ltb (b * 512 + k) (length store) ge) at found)))
    (cases_lt (b * 512 + k) (length store))

-- what holds in any case holds of a byte that is found
pub any_found : (o : Option ℕ) (P : Type 0) → P → found o (λ _. P)
any_found None P p = tt
any_found (Some b) P p = p
