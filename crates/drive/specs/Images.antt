-- Disc images: blocks of 512 bytes, one after the other.
use Rattle.std.specs.Prelude.{ℕ, ◌+◌, ◌*◌, ◌/◌, min, cond, ◌&&◌, List, [], ◌∷◌, length, take, drop, Some, None, Option, nat_lt, slice_index}

abbrev pub block_size : ℕ
block_size = 512

-- how many whole blocks a list of bytes has
abbrev pub blocks_in : List ℕ → ℕ
blocks_in bytes = length bytes / block_size

-- the blocks of an image that count: whole ones, and the first 4,096
abbrev pub stored : List ℕ → List ℕ
stored image = take (min (blocks_in image) 4096 * block_size) image

-- the bytes of n blocks from block b on
abbrev pub blocks_from : List ℕ → ℕ → ℕ → List ℕ
blocks_from store b n = take (n * block_size) (drop (b * block_size) store)

-- the byte at a place of a block, where there is such a block and such a place
abbrev pub byte_at : List ℕ → ℕ → ℕ → Option ℕ
byte_at store b place =
    cond (nat_lt b (blocks_in store) && nat_lt place block_size) (Some (slice_index store (b * block_size + place))) None

-- the first byte of a list
abbrev pub first_of : List ℕ → Option ℕ
first_of [] = None
first_of (b ∷ bs) = Some b
