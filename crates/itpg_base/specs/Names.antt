-- A name in its block of as many bytes as a name may have, and a short one in its smaller block.
use Rattle.std.specs.Prelude.{◌≡◌, ℕ, ◌-◌, ◌≤◌, List, ◌++◌, length, take, drop, replicate}
use Rattle.std.proofs.Common.{ap, ap₂, ◌∙◌, subst, sym, take-append-drop}
use Rattle.std.proofs.lemmas.List.{length-take-le}
use Rattle.itpg_base.specs.declared.name.Name.TheInside.{Inside}
use Rattle.itpg_base.specs.declared.name.TheConstants.{MAX_NAME}
use Rattle.itpg_base.specs.declared.short_name.ShortName.TheInside.{Inside as ShortInside}
use Rattle.itpg_base.specs.declared.short_name.TheConstants.{MAX_SHORT}

-- the first bytes of the block are the name, and those behind it are zeros
pub record IsBlockOf (room : ℕ) (bytes : List ℕ) (size : ℕ) : Type 0 where
  pub block : length bytes ≡ room
  pub fits : size ≤ room
  pub zeros : drop size bytes ≡ replicate (room - size) 0

abbrev pub with_zeros : ℕ → List ℕ → List ℕ
with_zeros room xs = xs ++ replicate (room - length xs) 0

abbrev pub bytes_of : Inside → List ℕ
bytes_of n = take n.size n.bytes

abbrev pub IsPadded : Inside → Type 0
IsPadded n = IsBlockOf MAX_NAME n.bytes n.size

abbrev pub padded : List ℕ → Inside
padded xs = record { size = length xs; bytes = with_zeros MAX_NAME xs }

abbrev pub short_of : ShortInside → List ℕ
short_of n = take n.size n.bytes

abbrev pub IsShort : ShortInside → Type 0
IsShort n = IsBlockOf MAX_SHORT n.bytes n.size

abbrev pub short_padded : List ℕ → ShortInside
short_padded xs = record { size = length xs; bytes = with_zeros MAX_SHORT xs }

size_again : (room : ℕ) (bytes : List ℕ) (size : ℕ) → IsBlockOf room bytes size → length (take size bytes) ≡ size
size_again room bytes size h = length-take-le size bytes (subst (λ k. size ≤ k) (sym h.block) h.fits)

block_again : (room : ℕ) (bytes : List ℕ) (size : ℕ) → IsBlockOf room bytes size → with_zeros room (take size bytes) ≡ bytes
block_again room bytes size h =
    ap (λ k. take size bytes ++ replicate (room - k) 0) (size_again room bytes size h) ∙ ap (λ t. take size bytes ++ t) (sym h.zeros) ∙ take-append-drop size bytes

pub padded_again : (n : Inside) → IsPadded n → padded (bytes_of n) ≡ n
padded_again n h = ap₂ (λ (b : List ℕ) (l : ℕ). let r : Inside = record { size = l; bytes = b } in r) (block_again MAX_NAME n.bytes n.size h) (size_again MAX_NAME n.bytes n.size h)

pub short_again : (n : ShortInside) → IsShort n → short_padded (short_of n) ≡ n
short_again n h = ap₂ (λ (b : List ℕ) (l : ℕ). let r : ShortInside = record { size = l; bytes = b } in r) (block_again MAX_SHORT n.bytes n.size h) (size_again MAX_SHORT n.bytes n.size h)
