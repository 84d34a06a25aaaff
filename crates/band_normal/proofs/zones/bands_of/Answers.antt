use Rattle.std.proofs.Common.{◌≡◌, arith}
use Rattle.std.proofs.lemmas.Int.{ints}
use Rattle.std.specs.Prelude.{◌<ℤ◌}
use Rattle.band_normal.proofs.Turns.{piece-span, one_piece, two_pieces, three_pieces}
use Rattle.band_normal.proofs.zones.bands_of.Goals as goal

pub returns-then-first-k-clause-normal : goal.returns-then-first-k-clause-normal
returns-then-first-k-clause-normal c = let e : c.first_piece-first.result.to ≡ c.bounds-k.result.b = (let h = c.if-first-k.true in omega (arith, ints)) in (one_piece _ _ _ c.bounds-k.ensures.same c.bounds-k.ensures.near c.first_piece-first.ensures e).normal

pub returns-then-first-k-clause-well_formed : goal.returns-then-first-k-clause-well_formed
returns-then-first-k-clause-well_formed c = let e : c.first_piece-first.result.to ≡ c.bounds-k.result.b = (let h = c.if-first-k.true in omega (arith, ints)) in (one_piece _ _ _ c.bounds-k.ensures.same c.bounds-k.ensures.near c.first_piece-first.ensures e).well_formed

pub piece_after-second-requires-clause-last : goal.piece_after-second-requires-clause-last
piece_after-second-requires-clause-last c = let n = c.if-first-k.false in let w = c.first_piece-first.ensures.within in omega (arith, ints)

pub returns-then-second-k-clause-normal : goal.returns-then-second-k-clause-normal
returns-then-second-k-clause-normal c = let e : c.piece_after-second.result.to ≡ c.bounds-k.result.b = (let h = c.if-second-k.true in omega (arith, ints)) in (two_pieces _ _ _ _ c.bounds-k.ensures.same c.bounds-k.ensures.near c.first_piece-first.ensures c.piece_after-second.ensures e).normal

pub returns-then-second-k-clause-well_formed : goal.returns-then-second-k-clause-well_formed
returns-then-second-k-clause-well_formed c = let e : c.piece_after-second.result.to ≡ c.bounds-k.result.b = (let h = c.if-second-k.true in omega (arith, ints)) in (two_pieces _ _ _ _ c.bounds-k.ensures.same c.bounds-k.ensures.near c.first_piece-first.ensures c.piece_after-second.ensures e).well_formed

pub piece_after-third-requires-clause-first : goal.piece_after-third-requires-clause-first
piece_after-third-requires-clause-first c =
    let first = piece-span _ _ _ c.first_piece-first.ensures in
    let second = piece-span _ _ _ c.piece_after-second.ensures in
    let p = first.0 in let q = second.0 in
    omega (arith, ints)

pub piece_after-third-requires-clause-last : goal.piece_after-third-requires-clause-last
piece_after-third-requires-clause-last c = let n = c.if-second-k.false in let w = c.piece_after-second.ensures.within in omega (arith, ints)

pub returns-clause-normal : goal.returns-clause-normal
returns-clause-normal c =
    let n = c.if-first-k.false in let m = c.if-second-k.false in
    let v = c.first_piece-first.ensures.within in let w = c.piece_after-second.ensures.within in
    let first : c.first_piece-first.result.to <ℤ c.bounds-k.result.b = omega (arith, ints) in
    let second : c.piece_after-second.result.to <ℤ c.bounds-k.result.b = omega (arith, ints) in
    (three_pieces _ _ _ _ _ c.bounds-k.ensures.same c.bounds-k.ensures.near c.first_piece-first.ensures c.piece_after-second.ensures c.piece_after-third.ensures first second).normal

pub returns-clause-well_formed : goal.returns-clause-well_formed
returns-clause-well_formed c =
    let n = c.if-first-k.false in let m = c.if-second-k.false in
    let v = c.first_piece-first.ensures.within in let w = c.piece_after-second.ensures.within in
    let first : c.first_piece-first.result.to <ℤ c.bounds-k.result.b = omega (arith, ints) in
    let second : c.piece_after-second.result.to <ℤ c.bounds-k.result.b = omega (arith, ints) in
    (three_pieces _ _ _ _ _ c.bounds-k.ensures.same c.bounds-k.ensures.near c.first_piece-first.ensures c.piece_after-second.ensures c.piece_after-third.ensures first second).well_formed
