-- How many lines a script has at most.
use Rattle.std.proofs.Common.{◌≡◌, ℕ, zero, suc, ◌+◌, ◌*◌, ◌≤◌, Bool, true, false, List, [], ◌∷◌, ◌++◌, length, length-append, if◌then◌else◌, nat_eq, refl, subst, sym, arith}
use Rattle.trial_script.specs.Draws.{after, draw}
use Rattle.trial_script.specs.Script.{Text, graph_line, node_line, live_line, node_name, edge_pair, edge_lines, sign_lines, after_sign, signs, ask_lines, each, edits, script}
use Rattle.trial_script.proofs.Places.{each_more, each_none}

few_each : (lines : ℕ → List Text) → ((i : ℕ) → length (lines i) ≤ 2) → (i count : ℕ) → length (each lines i count) ≤ 2 * count
few_each lines h i zero = subst (λ (l : List Text). length l ≤ 0) (sym (each_none lines i)) (omega arith)
few_each lines h i (suc count) =
    subst (λ (l : List Text). length l ≤ 2 * suc count) (sym (each_more lines i count)) (omega (arith, length-append (lines i) (each lines (i + 1) count), h i, few_each lines h (i + 1) count))

few_edge : (number i : ℕ) → length (edge_lines number i) ≤ 2
unfolding edge_lines edge_pair
few_edge number i = omega arith

few_choice : (b c : Bool) (x y : Text) → length (if b then x ∷ [] else if c then y ∷ [] else []) ≤ 2
few_choice true c x y = omega arith
few_choice false true x y = omega arith
few_choice false false x y = omega arith

few_sign : (i x : ℕ) → length (sign_lines i x) ≤ 2
unfolding sign_lines
few_sign i x = few_choice (nat_eq (draw x 0 4) 0) (nat_eq (draw x 0 4) 1) _ _

few_signs : (count i x : ℕ) → length (signs count i x) ≤ 2 * count
unfolding signs
few_signs zero i x = omega arith
few_signs (suc count) i x = omega (arith, length-append (sign_lines i x) (signs count (i + 1) (after_sign x)), few_sign i x, few_signs count (i + 1) (after_sign x))

three_asks : length ask_lines ≡ 3
unfolding ask_lines
three_asks = refl

all_lines : (line : Text) (nodes lives edges risks asks : List Text) → length nodes ≤ 400 → length lives ≤ 400 → length edges ≤ 4000 → length risks ≤ 300 → length asks ≡ 3
    → length ((line ∷ nodes ++ lives ++ edges ++ risks) ++ asks) ≤ 6000
all_lines line nodes lives edges risks asks a b c d e =
    omega (arith, a, b, c, d, e, length-append (nodes ++ lives ++ edges ++ risks) asks, length-append (nodes ++ lives ++ edges) risks, length-append (nodes ++ lives) edges, length-append nodes lives)

pub few_lines : (number : ℕ) → length (script number) ≤ 6000
unfolding script edits
few_lines number =
    all_lines graph_line _ _ _ _ ask_lines (few_each (λ i. node_line i ∷ []) (λ i. omega arith) 0 200) (few_each (λ i. live_line (node_name i) 0 9999 ∷ []) (λ i. omega arith) 0 200)
    (few_each (edge_lines number) (few_edge number) 0 2000) (few_signs 150 0 (after number 10000)) three_asks
