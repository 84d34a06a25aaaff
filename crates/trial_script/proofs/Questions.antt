-- Which lines of a script ask.
use Rattle.std.proofs.Common.{◌≡◌, ℕ, zero, suc, ◌+◌, Bool, true, false, List, [], ◌∷◌, ◌++◌, refl, ap, sym, subst, arith, get_or, nat_eq, if◌then◌else◌}
use Rattle.trial_script.specs.Draws.{after, draw}
use Rattle.trial_script.specs.Script.{Text, node_name, edge_name, graph_line, node_line, live_line, edge_line, edge_pair, edge_lines, high_line, positive_line, sign_lines, after_sign, signs, ask_lines, each, edits, script, Asks, AskNothing}
use Rattle.trial_script.proofs.Places.{each_more, each_none, signs_more, signs_none}

-- a line that begins with another byte than `a` asks nothing
other_byte : (line query : Text) (byte : ℕ) → get_or line 0 0 ≡ byte → (byte ≡ 97 → ⊥) → Asks line query → ⊥
other_byte line query byte e ne h = let a : get_or line 0 0 ≡ 97 = ap (λ l. get_or l 0 0) h in ne (omega (arith, e, a))

append_nothing : (xs ys : List Text) → AskNothing xs → AskNothing ys → AskNothing (xs ++ ys)
append_nothing [] ys a b = b
append_nothing (x ∷ xs) ys a b = (a.0, append_nothing xs ys a.1 b)

each_nothing : (lines : ℕ → List Text) → ((i : ℕ) → AskNothing (lines i)) → (i count : ℕ) → AskNothing (each lines i count)
each_nothing lines h i zero = let P : List Text → Type 0 = AskNothing in subst P (sym (each_none lines i)) tt
each_nothing lines h i (suc count) =
    let P : List Text → Type 0 = AskNothing in
    subst P (sym (each_more lines i count)) (append_nothing (lines i) (each lines (i + 1) count) (h i) (each_nothing lines h (i + 1) count))

graph_nothing : (query : Text) → ¬ Asks graph_line query
unfolding graph_line
graph_nothing query = other_byte _ query 103 refl (λ e. omega (arith, e))

node_nothing : (i : ℕ) → AskNothing (node_line i ∷ [])
unfolding node_line
node_nothing i = ((λ query. other_byte _ query 110 refl (λ e. omega (arith, e))), tt)

live_nothing : (name : Text) (from to : ℕ) (query : Text) → ¬ Asks (live_line name from to) query
unfolding live_line
live_nothing name from to query = other_byte _ query 108 refl (λ e. omega (arith, e))

life_nothing : (i : ℕ) → AskNothing (live_line (node_name i) 0 9999 ∷ [])
life_nothing i = (live_nothing (node_name i) 0 9999, tt)

edge_nothing : (i : ℕ) (meets : Bool) (s t : ℕ) (query : Text) → ¬ Asks (edge_line i meets s t) query
unfolding edge_line
edge_nothing i meets s t query = other_byte _ query 101 refl (λ e. omega (arith, e))

high_nothing : (i from to : ℕ) (query : Text) → ¬ Asks (high_line i from to) query
unfolding high_line
high_nothing i from to query = other_byte _ query 115 refl (λ e. omega (arith, e))

positive_nothing : (i from to : ℕ) (query : Text) → ¬ Asks (positive_line i from to) query
unfolding positive_line
positive_nothing i from to query = other_byte _ query 115 refl (λ e. omega (arith, e))

pair_nothing : (i s t k from more : ℕ) → AskNothing (edge_pair i s t k from more)
unfolding edge_pair
pair_nothing i s t k from more = (edge_nothing i (nat_eq k 0) s t, (live_nothing (edge_name i) from (from + more), tt))

edges_nothing : (number i : ℕ) → AskNothing (edge_lines number i)
unfolding edge_lines
edges_nothing number i = pair_nothing i _ _ _ _ _

choice_nothing : (b c : Bool) (xs ys : List Text) → AskNothing xs → AskNothing ys → AskNothing (if b then xs else if c then ys else [])
choice_nothing true c xs ys x y = x
choice_nothing false true xs ys x y = y
choice_nothing false false xs ys x y = tt

sign_nothing : (i x : ℕ) → AskNothing (sign_lines i x)
unfolding sign_lines
sign_nothing i x =
    let from : ℕ = draw x 1 9000 in
    let high : AskNothing (high_line i from (from + 999) ∷ []) = (high_nothing i from (from + 999), tt) in
    let positive : AskNothing (positive_line i from (from + 99) ∷ []) = (positive_nothing i from (from + 99), tt) in
    choice_nothing (nat_eq (draw x 0 4) 0) (nat_eq (draw x 0 4) 1) _ _ high positive

signs_nothing : (count i x : ℕ) → AskNothing (signs count i x)
signs_nothing zero i x = let P : List Text → Type 0 = AskNothing in subst P (sym (signs_none i x)) tt
signs_nothing (suc count) i x =
    let P : List Text → Type 0 = AskNothing in
    subst P (sym (signs_more count i x)) (append_nothing (sign_lines i x) (signs count (i + 1) (after_sign x)) (sign_nothing i x) (signs_nothing count (i + 1) (after_sign x)))

-- no edit asks anything
pub edits_nothing : (number : ℕ) → AskNothing (edits number)
unfolding edits
edits_nothing number =
    let nodes : List Text = graph_line ∷ each (λ i. node_line i ∷ []) 0 200 in
    let lives : List Text = each (λ i. live_line (node_name i) 0 9999 ∷ []) 0 200 in
    let pairs : List Text = each (edge_lines number) 0 2000 in
    let first : AskNothing nodes = (graph_nothing, each_nothing (λ i. node_line i ∷ []) node_nothing 0 200) in
    let second : AskNothing lives = each_nothing (λ i. live_line (node_name i) 0 9999 ∷ []) life_nothing 0 200 in
    let third : AskNothing pairs = each_nothing (edge_lines number) (edges_nothing number) 0 2000 in
    append_nothing ((nodes ++ lives) ++ pairs) (signs 150 0 (after number 10000))
    (append_nothing (nodes ++ lives) pairs (append_nothing nodes lives first second) third) (signs_nothing 150 0 (after number 10000))

pub script_parts : (number : ℕ) → script number ≡ edits number ++ ask_lines
unfolding script
script_parts number = refl
