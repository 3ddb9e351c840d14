-- Numbers that become coefficients without a shift.
use Rattle.std.proofs.Common.{◌≡◌, ℕ, suc, ◌-◌, ◌*◌, ◌/◌, ◌^◌, ◌<◌, ◌≤◌, List, take, map, length, get_or, sym, ap, subst, ◌∙◌, arith, length-take-le}
use Rattle.std.specs.Prelude.{ℤ, pos, negsuc, neg_ℤ, ◌*ℤ◌, unsigned_abs, slice_index_or}
use Rattle.std.proofs.lemmas.List.{get_or-take}
use Rattle.xs_bits.specs.Counts.{AreCounts}
use Rattle.xs_layout.specs.declared.Quant.{Quant}
use Rattle.xs_lists.specs.Spelling.{upto}
use Rattle.xs_signal.specs.Quantiser.{dequantised}
use Rattle.xs_planes.specs.Numbers.{AreNumbers}
use Rattle.xs_quant.specs.Rows.{AreSent, raised}
use Rattle.xs_spelling.specs.Sizes.{numbered}
use Rattle.xs_precinct.specs.Bands.{dequantised_row}
use Rattle.xs_precinct.proofs.Known.{range_map}

unshifted : (z : ℤ) → z *ℤ pos (2 ^ 0) ≡ z
unshifted (pos n) = let one : n * 1 ≡ n = omega arith in ap pos one
unshifted (negsuc n) = let one : suc n * 1 ≡ suc n = omega arith in ap (λ k. neg_ℤ (pos k)) one

-- the first numbers of a line are some that are sent
pub first_sent : (cut : ℕ) (counts : List ℕ) (values : List ℤ) (n : ℕ) → AreCounts counts → AreNumbers cut counts values → n ≤ length values → AreSent cut counts (take n values)
first_sent cut counts values n are numbers short =
    let size = length-take-le n values short in
    record {
      most = numbers.most;
      range = λ group inside. are group 0 inside;
      size = omega (arith, size, short, numbers.size);
      small = λ column inside.
          let less : column < n = omega (arith, inside, size) in
          subst (λ z. unsigned_abs z < 2 ^ (slice_index_or counts (column / 4) 0 - cut)) (sym (get_or-take n values column (pos 0) less)) (numbers.small column (omega (arith, less, short)));
    }

pub first_row : (kind : Quant) (cut : ℕ) (counts : List ℕ) (values : List ℤ) (n : ℕ) → n ≤ length values
    → map (raised (record { kind = kind; t = cut; fq = 0 }) counts (take n values)) (upto (length (take n values))) ≡ dequantised_row kind (numbered cut counts values) n
first_row kind cut counts values n short =
    ap (λ m. map (raised (record { kind = kind; t = cut; fq = 0 }) counts (take n values)) (upto m)) (length-take-le n values short)
    ∙ range_map (raised (record { kind = kind; t = cut; fq = 0 }) counts (take n values)) (λ column. dequantised kind (get_or counts (column / 4) 0) cut (get_or values column (pos 0))) 0 n (λ column low high.
    unshifted (dequantised kind (get_or counts (column / 4) 0) cut (get_or (take n values) column (pos 0)))
    ∙ ap (dequantised kind (get_or counts (column / 4) 0) cut) (get_or-take n values column (pos 0) (omega (arith, high))))
