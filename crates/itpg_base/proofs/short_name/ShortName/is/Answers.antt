use Rattle.std.proofs.Common.{◌≡◌, ◌≤◌, ℕ, List, length, take, drop, IsTrue, ap, sym, subst, refl, arith, rules, ◌∙◌}
use Rattle.std.proofs.lemmas.List.{drop-take, take-take, length-take-le}
use Rattle.itpg_base.specs.Names.{IsBlockOf}
use Rattle.itpg_base.specs.declared.name.TheConstants.{MAX_NAME}
use Rattle.itpg_base.specs.declared.short_name.TheConstants.{MAX_SHORT}
use Rattle.itpg_base.proofs.Padding.{front_block, front_of_pieces, same_block}
use Rattle.itpg_base.proofs.short_name.ShortName.is.Goals as goal
use Rattle.itpg_base.proofs.short_name.ShortName.is.Goals.{then-self-name-via-then-self-name, then-self-name-via-else-self-name+then-not-are_same_eight}

-- blocks of the same bytes have the same size
same_size : (room less : ℕ) (a b : List ℕ) (n m : ℕ) → IsBlockOf room a n → IsBlockOf less b m → take n a ≡ take m b → n ≡ m
same_size room less a b n m h k e =
    sym (length-take-le n a (subst (λ (r : ℕ). n ≤ r) (sym h.block) h.fits)) ∙ ap length e ∙ length-take-le m b (subst (λ (r : ℕ). m ≤ r) (sym k.block) k.fits)

-- and the same front
same_front : (a b : List ℕ) (n m : ℕ) → IsBlockOf MAX_SHORT a n → IsBlockOf MAX_NAME b m → take n a ≡ take m b → a ≡ take 14 b
same_front a b n m h k e =
    let size : n ≡ m = same_size MAX_SHORT MAX_NAME a b n m h k e in
    let k' : IsBlockOf MAX_NAME b n = subst (IsBlockOf MAX_NAME b) (sym size) k in
    let front : IsBlockOf MAX_SHORT (take 14 b) n = front_block MAX_NAME MAX_SHORT b (take 14 b) n k' h.fits (omega arith) refl in
    same_block MAX_SHORT n a (take 14 b) h front (e ∙ ap (λ (s : ℕ). take s b) (sym size) ∙ sym (take-take n 14 b h.fits))

first_piece : (a b : List ℕ) → a ≡ take 14 b → take 8 a ≡ take 8 b
first_piece a b e = ap (take 8) e ∙ take-take 8 14 b (omega arith)

last_piece : (a b : List ℕ) → a ≡ take 14 b → take 8 (drop 6 a) ≡ take 8 (drop 6 b)
last_piece a b e = ap (λ (x : List ℕ). take 8 (drop 6 x)) e ∙ ap (take 8) (drop-take 6 8 b) ∙ take-take 8 8 (drop 6 b) (omega arith)

pub returns-then-self-name : goal.returns-then-self-name
returns-then-self-name c =
    let a = c.self.inside.bytes in
    let b = c.name.inside.bytes in
    let bytes = λ (e : c.args.self.now ≡ c.args.name.now). c.self.view_is ∙ e ∙ sym c.name.view_is in (
      λ never. search rules,
      λ e. elim c.then-self-name.branch [
        | then-self-name-via-then-self-name w ↦ absurd (w.if-self-name.true (same_size MAX_SHORT MAX_NAME a b c.self.inside.size c.name.inside.size c.self.invariant c.name.invariant (bytes e)))
        | then-self-name-via-else-self-name+then-not-are_same_eight w ↦
            let same = first_piece a b (same_front a b c.self.inside.size c.name.inside.size c.self.invariant c.name.invariant (bytes e)) in
            subst IsTrue w.if-not-are_same_eight.true (w.are_same_eight.ensures.1 same)
      ],
    )

pub returns : goal.returns
returns c =
    let a = c.self.inside.bytes in
    let b = c.name.inside.bytes in
    let n = c.self.inside.size in
    let first : take 8 a ≡ take 8 b = c.are_same_eight.ensures.0 c.if-not-are_same_eight.false in (
      λ yes.
          let front = front_of_pieces a b first (c.are_same_eight-2.ensures.0 yes) in
          sym c.self.view_is ∙ sym (take-take n 14 a c.self.invariant.fits) ∙ ap (take n) front ∙ take-take n 14 b c.self.invariant.fits ∙ ap (λ (s : ℕ). take s b) c.if-self-name.false ∙ c.name.view_is,
      λ e. c.are_same_eight-2.ensures.1 (last_piece a b (same_front a b n c.name.inside.size c.self.invariant c.name.invariant (c.self.view_is ∙ e ∙ sym c.name.view_is))),
    )
