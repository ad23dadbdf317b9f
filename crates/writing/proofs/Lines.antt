-- A line as far as it has come: the word, and the numbers behind it.
use Rattle.std.proofs.Common.{◌≡◌, ℕ, ◌+◌, ◌<◌, ◌≤◌, List, [], ◌∷◌, ◌++◌, length, get_or, decimal, take, drop, sym, ap, ◌∙◌, arith, length-append, length-set, take_all}
use Rattle.std.proofs.lemmas.List.{take_more, flat_map_more, take-append-drop}
use Rattle.std.proofs.lemmas.List.Concat.{flat_map-append}
use Rattle.std.specs.List.{flat_map}
use Rattle.writing.specs.Writing.{field_bytes, line_bytes}

abbrev pub so_far : List ℕ → List ℕ → ℕ → List ℕ
so_far word ns k = word ++ flat_map field_bytes (take k ns)

module _ (word ns : List ℕ) (k : ℕ) where
  -- one number more
  pub so_far_more : k < length ns → so_far word ns (k + 1) ≡ so_far word ns k ++ field_bytes (get_or ns k 0)
  so_far_more inside = ap (λ (ms : List ℕ). word ++ flat_map field_bytes ms) (take_more ns k 0 inside) ∙ sym (flat_map_more field_bytes word (take k ns) (get_or ns k 0))

  pub length_more : k < length ns → length (so_far word ns (k + 1)) ≡ length (so_far word ns k) + length (field_bytes (get_or ns k 0))
  length_more inside = ap length (so_far_more inside) ∙ length-append (so_far word ns k) (field_bytes (get_or ns k 0))

  -- the line feed has room behind it
  pub length_part : length (so_far word ns k) + 1 ≤ length (line_bytes word ns)
  unfolding line_bytes
  length_part =
      let whole = ap (λ (ms : List ℕ). length (flat_map field_bytes ms)) (take-append-drop k ns) in
      let both = ap length (flat_map-append field_bytes (take k ns) (drop k ns)) in
      let parts = length-append (flat_map field_bytes (take k ns)) (flat_map field_bytes (drop k ns)) in
      let front = length-append word (flat_map field_bytes (take k ns)) in
      let line = length-append word (flat_map field_bytes ns) in
      let feed = length-append (word ++ flat_map field_bytes ns) (10 ∷ []) in
      omega arith

  -- the line feed ends it
  pub so_far_end : length ns ≤ k → line_bytes word ns ≡ so_far word ns k ++ 10 ∷ []
  unfolding line_bytes
  so_far_end all = ap (λ (ms : List ℕ). word ++ flat_map field_bytes ms ++ 10 ∷ []) (sym (take_all k ns all))

  pub length_line : length ns ≤ k → length (line_bytes word ns) ≡ length (so_far word ns k) + 1
  length_line all = ap length (so_far_end all) ∙ length-append (so_far word ns k) (10 ∷ [])

-- the room that each write of a line needs, and that the whole takes
pub word_room : (word ns : List ℕ) → length word + 1 ≤ length (line_bytes word ns)
word_room word ns = let part = length_part word ns 0 in let same = length-append word [] in omega arith

pub field_room : (word ns : List ℕ) (k : ℕ) → k < length ns → length (so_far word ns k) + length (decimal (get_or ns k 0)) + 2 ≤ length (line_bytes word ns)
field_room word ns k inside = let more = length_more word ns k inside in let part = length_part word ns (k + 1) in omega arith

pub ruleset line_room = (word_room, field_room, length_line, length-set)
