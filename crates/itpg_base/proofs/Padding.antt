-- A name and the zeros behind it.
use Rattle.std.proofs.Common.{◌≡◌, ℕ, ◌+◌, ◌-◌, ◌≤◌, List, ◌++◌, length, take, drop, ap, ap₂, sym, subst, ◌∙◌, arith, length-append, take-append-drop}
use Rattle.std.specs.Prelude.{replicate}
use Rattle.std.proofs.lemmas.List.{length-replicate, drop-take, take-replicate, take-take, length-take-le}
use Rattle.std.proofs.Math.Seq.{drop-append_seam, take-add, take-append_seam}
use Rattle.itpg_base.specs.Names.{IsBlockOf, with_zeros}

pub is_block : (room : ℕ) (xs : List ℕ) (b : List ℕ) → length xs ≤ room → b ≡ with_zeros room xs → IsBlockOf room b (length xs)
is_block room xs b h e = record {
  block = ap length e ∙ length-append xs (replicate (room - length xs) 0) ∙ ap (λ k. length xs + k) (length-replicate (room - length xs) 0) ∙ omega arith;
  fits = h;
  zeros = ap (drop (length xs)) e ∙ drop-append_seam xs (replicate (room - length xs) 0);
}

pub take_padded : (room : ℕ) (xs : List ℕ) (b : List ℕ) → b ≡ with_zeros room xs → take (length xs) b ≡ xs
take_padded room xs b e = ap (take (length xs)) e ∙ take-append_seam xs (replicate (room - length xs) 0)

-- the front of a block that has room for the bytes is a smaller block of them
pub front_block : (room less : ℕ) (bytes front : List ℕ) (size : ℕ) → IsBlockOf room bytes size → size ≤ less → less ≤ room → front ≡ take less bytes → IsBlockOf less front size
front_block room less bytes front size h few le e = record {
  block = ap length e ∙ length-take-le less bytes (subst (λ (k : ℕ). less ≤ k) (sym h.block) le);
  fits = few;
  zeros = ap (drop size) e ∙ zeros;
}
  where
    zeros : drop size (take less bytes) ≡ replicate (less - size) 0
    zeros =
        let same : size + (less - size) ≡ less = omega arith in
        subst (λ (k : ℕ). drop size (take k bytes) ≡ replicate (less - size) 0) same
        (drop-take size (less - size) bytes ∙ ap (take (less - size)) h.zeros ∙ take-replicate (less - size) (room - size) 0 (omega arith))

-- two blocks of one room whose bytes are the same are the same
pub same_block : (room size : ℕ) (a b : List ℕ) → IsBlockOf room a size → IsBlockOf room b size → take size a ≡ take size b → a ≡ b
same_block room size a b h k e = sym (take-append-drop size a) ∙ ap₂ (λ (x y : List ℕ). x ++ y) e (h.zeros ∙ sym k.zeros) ∙ take-append-drop size b

-- the first eight bytes and the eight from the seventh on are all the first fourteen
pub front_of_pieces : (a b : List ℕ) → take 8 a ≡ take 8 b → take 8 (drop 6 a) ≡ take 8 (drop 6 b) → take 14 a ≡ take 14 b
front_of_pieces a b e k =
    let first : take 6 a ≡ take 6 b = sym (take-take 6 8 a (omega arith)) ∙ ap (take 6) e ∙ take-take 6 8 b (omega arith) in
    take-add 6 8 a ∙ ap₂ (λ (x y : List ℕ). x ++ y) first k ∙ sym (take-add 6 8 b)
