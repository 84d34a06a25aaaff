-- How what is left of a script changes from a place to the next.
use Rattle.std.proofs.Common.{◌≡◌, ℕ, zero, suc, ◌+◌, ◌-◌, ◌*◌, ◌<◌, Bool, nat_eq, List, [], ◌∷◌, ◌++◌, refl, ap, ap₂, sym, ◌∙◌, append_assoc, arith}
use Rattle.trial_script.specs.Draws.{after, draw, drawn, stepped}
use Rattle.trial_script.specs.Script.{Text, node_name, edge_name, graph_line, node_line, live_line, edge_line, edge_pair, edge_lines, sign_lines, after_sign, signs, ask_lines, risk_line, contact_line, alone_line, each, edits, script}
use Rattle.trial_script.specs.Left.{left_persons, edges, left_edges, left_lives, left_nodes}

-- the lines of one thing, and of those behind it
pub each_more : (lines : ℕ → List Text) (i count : ℕ) → each lines i (suc count) ≡ lines i ++ each lines (i + 1) count
unfolding each
each_more lines i count = refl

pub each_none : (lines : ℕ → List Text) (i : ℕ) → each lines i 0 ≡ []
unfolding each
each_none lines i = refl

one_more : (n i : ℕ) → i < n → n - i ≡ suc (n - (i + 1))
one_more n i h = omega (arith, h)

-- a node, and those behind it
pub nodes_go : (i x : ℕ) → i < 200 → left_nodes i x ≡ node_line i ∷ left_nodes (i + 1) x
unfolding left_nodes
nodes_go i x h =
    let all : ℕ → List Text = λ n. each (λ k. node_line k ∷ []) i n ++ left_lives 0 x in
    ap all (one_more 200 i h) ∙ ap (λ l. l ++ left_lives 0 x) (each_more (λ k. node_line k ∷ []) i (200 - (i + 1)))

pub nodes_end : (x : ℕ) → left_nodes 200 x ≡ left_lives 0 x
unfolding left_nodes
nodes_end x = ap (λ l. l ++ left_lives 0 x) (each_none (λ k. node_line k ∷ []) 200)

-- the life of a node, and those behind it
pub lives_go : (i x : ℕ) → i < 200 → left_lives i x ≡ live_line (node_name i) 0 9999 ∷ left_lives (i + 1) x
unfolding left_lives
lives_go i x h =
    let all : ℕ → List Text = λ n. each (λ k. live_line (node_name k) 0 9999 ∷ []) i n ++ left_edges 0 x in
    ap all (one_more 200 i h) ∙ ap (λ l. l ++ left_edges 0 x) (each_more (λ k. live_line (node_name k) 0 9999 ∷ []) i (200 - (i + 1)))

pub lives_end : (x : ℕ) → left_lives 200 x ≡ left_edges 0 x
unfolding left_lives
lives_end x = ap (λ l. l ++ left_edges 0 x) (each_none (λ k. live_line (node_name k) 0 9999 ∷ []) 200)

edges_more : (count i x : ℕ) → edges (suc count) i x
    ≡ edge_pair i (draw x 0 200) (draw x 1 200) (draw x 2 2) (draw x 3 9900) (draw x 4 100) ++ edges count (i + 1) (after x 5)
unfolding edges
edges_more count i x = refl

edges_none : (i x : ℕ) → edges 0 i x ≡ left_persons 0 x
unfolding edges
edges_none i x = refl

-- the two lines of an edge, and those behind it
pub edges_go : (i x : ℕ) → i < 2000 → left_edges i x
    ≡ edge_pair i (draw x 0 200) (draw x 1 200) (draw x 2 2) (draw x 3 9900) (draw x 4 100) ++ left_edges (i + 1) (after x 5)
unfolding left_edges
edges_go i x h = ap (λ n. edges n i x) (one_more 2000 i h) ∙ edges_more (2000 - (i + 1)) i x

pub edge_drawn : (number source target from to i x y : ℕ) (meets : Bool) → i < 2000 → number ≡ i
    → source ≡ draw x 0 200 → target ≡ draw x 1 200 → meets ≡ nat_eq (draw x 2 2) 0 → from ≡ draw x 3 9900 → to ≡ draw x 3 9900 + draw x 4 100 → y ≡ after x 5
    → left_edges i x ≡ edge_line number meets source target ∷ live_line (edge_name number) from to ∷ left_edges (number + 1) y
unfolding edge_pair
edge_drawn number source target from to i x y meets h a b c d e f g =
    let all : left_edges i x ≡ edge_line i (nat_eq (draw x 2 2) 0) (draw x 0 200) (draw x 1 200) ∷ live_line (edge_name i) (draw x 3 9900) (draw x 3 9900 + draw x 4 100) ∷ left_edges (i + 1) (after x 5) = edges_go i x h in
    cc

pub edges_end : (x : ℕ) → left_edges 2000 x ≡ left_persons 0 x
unfolding left_edges
edges_end x = edges_none 2000 x

pub signs_more : (count i x : ℕ) → signs (suc count) i x ≡ sign_lines i x ++ signs count (i + 1) (after_sign x)
unfolding signs
signs_more count i x = refl

pub signs_none : (i x : ℕ) → signs 0 i x ≡ []
unfolding signs
signs_none i x = refl

-- the line of a person, if there is one, and those behind it
pub persons_go : (i x : ℕ) → i < 150 → left_persons i x ≡ sign_lines i x ++ left_persons (i + 1) (after_sign x)
unfolding left_persons
persons_go i x h =
    ap (λ n. signs n i x ++ ask_lines) (one_more 150 i h)
    ∙ ap (λ l. l ++ ask_lines) (signs_more (150 - (i + 1)) i x)
    ∙ append_assoc (sign_lines i x) (signs (150 - (i + 1)) (i + 1) (after_sign x)) ask_lines

persons_end : (x : ℕ) → left_persons 150 x ≡ ask_lines
unfolding left_persons
persons_end x = ap (λ l. l ++ ask_lines) (signs_none 150 x)

-- draws on and on
after_after : (x a b c : ℕ) → a + b ≡ c → after (after x a) b ≡ after x c
unfolding after
after_after x a zero c e = let same : a ≡ c = omega (arith, e) in ap (after x) same
after_after x a (suc b) zero e = absurd (omega (arith, e))
after_after x a (suc b) (suc c) e = let less : a + b ≡ c = omega (arith, e) in ap stepped (after_after x a b c less)

after_none : (x : ℕ) → after x 0 ≡ x
unfolding after
after_none x = refl

draw_after : (x a k j n : ℕ) → a + k ≡ j → draw (after x a) k n ≡ draw x j n
draw_after x a k j n e = let more : a + suc k ≡ suc j = omega (arith, e) in ap (λ y. drawn y n) (after_after x a (suc k) (suc j) more)

edge_at : (number i x : ℕ) → x ≡ after number (5 * i) →
    edge_pair i (draw x 0 200) (draw x 1 200) (draw x 2 2) (draw x 3 9900) (draw x 4 100) ≡ edge_lines number i
unfolding edge_lines
edge_at number i x e =
    let source : draw (after number (5 * i)) 0 200 ≡ draw number (5 * i) 200 = draw_after number (5 * i) 0 (5 * i) 200 (omega arith) in
    let target : draw (after number (5 * i)) 1 200 ≡ draw number (5 * i + 1) 200 = draw_after number (5 * i) 1 (5 * i + 1) 200 refl in
    let kind : draw (after number (5 * i)) 2 2 ≡ draw number (5 * i + 2) 2 = draw_after number (5 * i) 2 (5 * i + 2) 2 refl in
    let from : draw (after number (5 * i)) 3 9900 ≡ draw number (5 * i + 3) 9900 = draw_after number (5 * i) 3 (5 * i + 3) 9900 refl in
    let more : draw (after number (5 * i)) 4 100 ≡ draw number (5 * i + 4) 100 = draw_after number (5 * i) 4 (5 * i + 4) 100 refl in
    ap (λ y. edge_pair i (draw y 0 200) (draw y 1 200) (draw y 2 2) (draw y 3 9900) (draw y 4 100)) e
    ∙ ap (λ d. edge_pair i d (draw (after number (5 * i)) 1 200) (draw (after number (5 * i)) 2 2) (draw (after number (5 * i)) 3 9900) (draw (after number (5 * i)) 4 100)) source
    ∙ ap (λ d. edge_pair i (draw number (5 * i) 200) d (draw (after number (5 * i)) 2 2) (draw (after number (5 * i)) 3 9900) (draw (after number (5 * i)) 4 100)) target
    ∙ ap (λ d. edge_pair i (draw number (5 * i) 200) (draw number (5 * i + 1) 200) d (draw (after number (5 * i)) 3 9900) (draw (after number (5 * i)) 4 100)) kind
    ∙ ap (λ d. edge_pair i (draw number (5 * i) 200) (draw number (5 * i + 1) 200) (draw number (5 * i + 2) 2) d (draw (after number (5 * i)) 4 100)) from
    ∙ ap (λ d. edge_pair i (draw number (5 * i) 200) (draw number (5 * i + 1) 200) (draw number (5 * i + 2) 2) (draw number (5 * i + 3) 9900) d) more

-- the edges drawn one after another are those drawn at their places
edges_at : (number count i x : ℕ) → x ≡ after number (5 * i) →
    edges count i x ≡ each (edge_lines number) i count ++ left_persons 0 (after number (5 * (i + count)))
edges_at number zero i x e =
    let same : 5 * i ≡ 5 * (i + 0) = omega arith in
    edges_none i x ∙ ap (left_persons 0) (e ∙ ap (after number) same)
    ∙ ap (λ l. l ++ left_persons 0 (after number (5 * (i + 0)))) (sym (each_none (edge_lines number) i))
edges_at number (suc count) i x e =
    let moved : 5 * i + 5 ≡ 5 * (i + 1) = omega arith in
    let next : after x 5 ≡ after number (5 * (i + 1)) = ap (λ y. after y 5) e ∙ after_after number (5 * i) 5 (5 * (i + 1)) moved in
    let end : 5 * ((i + 1) + count) ≡ 5 * (i + suc count) = omega arith in
    let rest : List Text = left_persons 0 (after number (5 * (i + suc count))) in
    edges_more count i x
    ∙ ap₂ (λ (a b : List Text). a ++ b) (edge_at number i x e) (edges_at number count (i + 1) (after x 5) next ∙ ap (λ n. each (edge_lines number) (i + 1) count ++ left_persons 0 (after number n)) end)
    ∙ sym (append_assoc (edge_lines number i) (each (edge_lines number) (i + 1) count) rest)
    ∙ ap (λ l. l ++ rest) (sym (each_more (edge_lines number) i count))

left_edges_is : (number : ℕ) → left_edges 0 number ≡ each (edge_lines number) 0 2000 ++ left_persons 0 (after number 10000)
unfolding left_edges
left_edges_is number = edges_at number 2000 0 number (sym (after_none number))

left_persons_is : (x : ℕ) → left_persons 0 x ≡ signs 150 0 x ++ ask_lines
unfolding left_persons
left_persons_is x = refl

-- a whole script
pub script_is : (number : ℕ) → graph_line ∷ left_nodes 0 number ≡ script number
unfolding left_nodes left_lives edits script
script_is number =
    let nodes : List Text = each (λ i. node_line i ∷ []) 0 200 in
    let lives : List Text = each (λ i. live_line (node_name i) 0 9999 ∷ []) 0 200 in
    let pairs : List Text = each (edge_lines number) 0 2000 in
    let set : List Text = signs 150 0 (after number 10000) in
    ap (λ l. graph_line ∷ (nodes ++ (lives ++ l))) (left_edges_is number ∙ ap (λ l. pairs ++ l) (left_persons_is (after number 10000)))
    ∙ ap (λ l. graph_line ∷ (nodes ++ l)) (sym (append_assoc lives pairs (set ++ ask_lines)))
    ∙ ap (λ l. graph_line ∷ l) (sym (append_assoc nodes (lives ++ pairs) (set ++ ask_lines)) ∙ ap (λ l. l ++ (set ++ ask_lines)) (sym (append_assoc nodes lives pairs)))
    ∙ sym (append_assoc (graph_line ∷ ((nodes ++ lives) ++ pairs)) set ask_lines)

-- a person of whom nothing is set
pub person_none : (i x y : ℕ) → i < 150 → sign_lines i x ≡ [] → y ≡ after_sign x → left_persons i x ≡ left_persons (i + 1) y
person_none i x y h e next =
    persons_go i x h ∙ ap (λ l. l ++ left_persons (i + 1) (after_sign x)) e ∙ ap (left_persons (i + 1)) (sym next)

-- a person of whom something is set
pub person_some : (i x y : ℕ) (line : Text) → i < 150 → sign_lines i x ≡ line ∷ [] → y ≡ after_sign x → left_persons i x ≡ line ∷ left_persons (i + 1) y
person_some i x y line h e next =
    persons_go i x h ∙ ap (λ l. l ++ left_persons (i + 1) (after_sign x)) e ∙ ap (λ z. line ∷ left_persons (i + 1) z) (sym next)

-- behind the last person the questions stand
pub persons_over : (i x : ℕ) → i ≡ 150 → left_persons i x ≡ risk_line ∷ contact_line ∷ alone_line ∷ []
unfolding ask_lines
persons_over i x last = ap (λ k. left_persons k x) last ∙ persons_end x
