-- The lines of a listing, one behind the other.
use Rattle.std.proofs.Common.{◌≡◌, ℕ, zero, suc, ◌+◌, ◌-◌, ◌<◌, ◌≤◌, List, [], ◌∷◌, ◌++◌, length, codes, refl, sym, ap, ◌∙◌, add-one, arith, length-append, append_assoc, append-nil}
use Rattle.writing.specs.Writing.{line_bytes}
use Rattle.law.specs.Assignments.{rows_of}
use Rattle.law.specs.State.{Contents}
use Rattle.plan.specs.declared.table.Table.{Table}
use Rattle.plan.specs.Contents.{contents, steps_in}
use Rattle.plan.specs.Listing.{row_line, rows_bytes, listing_bytes}
use Rattle.plan.proofs.Memory.{rows_are}

module _ (s : Contents) where
  pub rows_none : rows_bytes s 0 ≡ []
  unfolding rows_bytes
  rows_none = refl

  pub rows_more : (n : ℕ) → rows_bytes s (n + 1) ≡ rows_bytes s n ++ row_line s.chains s.start n
  unfolding rows_bytes
  rows_more n = rw (add-one n)

  module _ (rounds : ℕ) where
    -- the heading, and the lines of the first rows
    abbrev pub so_far : ℕ → List ℕ
    so_far n = line_bytes (codes "rounds") (rounds ∷ []) ++ rows_bytes s n

    pub so_far_none : so_far 0 ≡ line_bytes (codes "rounds") (rounds ∷ [])
    so_far_none = rw rows_none (append-nil (line_bytes (codes "rounds") (rounds ∷ [])))

    pub so_far_more : (n : ℕ) → so_far (n + 1) ≡ so_far n ++ row_line s.chains s.start n
    so_far_more n = ap (λ (rows : List ℕ). line_bytes (codes "rounds") (rounds ∷ []) ++ rows) (rows_more n) ∙ sym (append_assoc (line_bytes (codes "rounds") (rounds ∷ [])) (rows_bytes s n) (row_line s.chains s.start n))

    pub length_more : (n : ℕ) → length (so_far (n + 1)) ≡ length (so_far n) + length (row_line s.chains s.start n)
    length_more n = ap length (so_far_more n) ∙ length-append (so_far n) (row_line s.chains s.start n)

    so_far_rises : (m n : ℕ) → length (so_far n) ≤ length (so_far (n + m))
    so_far_rises zero n = let e : n + 0 ≡ n = omega arith in let f = ap (λ k. length (so_far k)) e in omega arith
    so_far_rises (suc m) n =
        let e : n + suc m ≡ (n + m) + 1 = omega arith in
        let f = ap (λ k. length (so_far k)) e in
        let r = so_far_rises m n in
        let l = length_more (n + m) in
        omega arith

    -- the first rows take no more than all
    part : (n all : ℕ) → n ≤ all → length (so_far n) ≤ length (so_far all)
    part n all h =
        let e : n + (all - n) ≡ all = omega arith in
        let f = ap (λ k. length (so_far k)) e in
        let r = so_far_rises (all - n) n in
        omega arith

    pub listing_is : (n : ℕ) → length (rows_of s.chains) ≡ n → listing_bytes s rounds ≡ so_far n
    unfolding listing_bytes
    listing_is n all = rw all

-- the room that each write of the listing needs
module _ (t : Table) (counted : steps_in t.entries.items ≡ length t.rows.items) (rounds : ℕ) where
  pub all_rows : listing_bytes (contents t) rounds ≡ so_far (contents t) rounds (length t.rows.items)
  all_rows = listing_is (contents t) rounds (length t.rows.items) (ap length (rows_are t.entries.items t.rows.items counted))

  pub heading_room : length (line_bytes (codes "rounds") (rounds ∷ [])) ≤ length (listing_bytes (contents t) rounds)
  heading_room =
      let none = ap length (so_far_none (contents t) rounds) in let whole = ap length all_rows in let p = part (contents t) rounds 0 (length t.rows.items) (omega arith) in omega arith

  pub row_room : (k : ℕ) → k < length t.rows.items → length (so_far (contents t) rounds k) + length (row_line (contents t).chains (contents t).start k) ≤ length (listing_bytes (contents t) rounds)
  row_room k inside =
      let more = length_more (contents t) rounds k in let whole = ap length all_rows in let p = part (contents t) rounds (k + 1) (length t.rows.items) (omega arith) in omega arith

pub ruleset room = (heading_room, row_room)
