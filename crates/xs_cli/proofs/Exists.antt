-- Each codestream has a picture.
use Rattle.std.proofs.Common.{◌≡◌, ℕ, ◌+◌, ◌-◌, ◌^◌, ◌<◌, ◌≤◌, List, length, get_or, refl, sym, ap, subst, ◌∙◌, arith}
use Rattle.std.specs.Prelude.{ℤ, pos, negsuc}
use Rattle.std.proofs.lemmas.Nat.{pow_pos}
use Rattle.std.proofs.lemmas.List.{get_or_default}
use Rattle.xs_params.specs.declared.header.Header.{Header}
use Rattle.xs_params.specs.Accepted.{IsAccepted}
use Rattle.xs_params.specs.Picture.{IsPlace, Picture, row_first, sample_count, width_of}
use Rattle.xs_params.specs.Rows.{Rows}
use Rattle.xs_params.proofs.Areas.{row_end}
use Rattle.xs_signal.specs.Samples.{clamped, scale_out}
use Rattle.xs_grammar.specs.Precinct.{Content}
use Rattle.xs_grammar.specs.Codestream.{IsCodestreamFront}
use Rattle.xs_reading.specs.Rows.{dequantised_rows}
use Rattle.xs_decoding.specs.Decoded.{IsDecodingOf, IsPictureOf, decoded_sample}
use Rattle.xs_recv.proofs.Joined.{chosen_each}
use Rattle.xs_recv.proofs.Samples.{one_place, place_of_index}

clamped_small : (most : ℕ) (z : ℤ) → clamped most z ≤ most
clamped_small most (pos n) = omega arith
clamped_small most (negsuc n) = omega arith

scaled_small : (depth bw : ℕ) (z : ℤ) → scale_out depth bw z < 2 ^ depth
scaled_small depth bw z = below (clamped_small (2 ^ depth - 1) _) (pow_pos depth)
  where
    below : {a b : ℕ} → a ≤ b - 1 → 0 < b → a < b
    below less some = omega (arith, less, some)

-- the sample at an index is that of each place which has the index
abbrev IsSampleAt : Header → Rows → ℕ → ℕ → Type 0
IsSampleAt h rows k sample = (component row column : ℕ) → IsPlace h.shape component row column → row_first h.shape component row + column ≡ k → sample ≡ decoded_sample h rows component row column

sample_there : (h : Header) (rows : Rows) (k : ℕ) → k < sample_count h.shape → (sample : ℕ) × (IsSampleAt h rows k sample × (sample < 2 ^ h.shape.depth))
sample_there h rows k below =
    let place = place_of_index h.shape k below in (
      decoded_sample h rows place.0 place.1 place.2,
      (
        (λ component row column there same. moved (one_place h.shape place.0 place.1 place.2 component row column place.3 there (place.4 ∙ sym same))),
        scaled_small h.shape.depth h.bw _,
      ),
    )
  where
    moved : {a b c d e f : ℕ} → (a ≡ d) × (b ≡ e) × (c ≡ f) → decoded_sample h rows a b c ≡ decoded_sample h rows d e f
    moved {a} {b} {c} {d} {e} {f} p = ap (λ x. decoded_sample h rows x b c) p.0 ∙ ap (λ x. decoded_sample h rows d x c) p.1 ∙ ap (λ x. decoded_sample h rows d e x) p.2

pub picture_there : (h : Header) (rows : Rows) → IsAccepted h → (picture : Picture) × IsPictureOf h rows picture
picture_there h rows accepted = (
  record { shape = h.shape; samples = found.0 },
  record {
    whole = record {
      shaped = accepted.geometry.shape;
      size = found.1;
      small = λ k d below. small k d below;
    };
    shape = refl;
    samples = λ component row column there. (found.2 (row_first h.shape component row + column) (inside component row column there)).0 component row column there refl;
  },
)
  where
    found : (list : List ℕ) × (length list ≡ sample_count h.shape) × ((k : ℕ) → k < sample_count h.shape → IsSampleAt h rows k (get_or list k 0) × (get_or list k 0 < 2 ^ h.shape.depth))
    found = chosen_each (λ k sample. IsSampleAt h rows k sample × (sample < 2 ^ h.shape.depth)) 0 (sample_count h.shape) (sample_there h rows)

    inside : (component row column : ℕ) → IsPlace h.shape component row column → row_first h.shape component row + column < sample_count h.shape
    inside component row column there =
        within (row_first h.shape component row) (width_of h.shape component) column (sample_count h.shape) (row_end h.shape component row there.row_there) there.column_there
      where
        within : (first width column count : ℕ) → first + width ≤ count → column < width → first + column < count
        within first width column count p q = omega (arith, p, q)

    small : (k d : ℕ) → k < length found.0 → get_or found.0 k d < 2 ^ h.shape.depth
    small k d below = subst (λ n. n < 2 ^ h.shape.depth) (get_or_default found.0 k 0 d below) (found.2 k (subst (λ n. k < n) found.1 below)).1

pub picture_exists : (h : Header) (content : Content) (bytes : List ℕ) (n : ℕ) → IsCodestreamFront h content bytes n → (picture : Picture) × IsDecodingOf h content picture
picture_exists h content bytes n front = picture_there h (dequantised_rows h content) front.1.headed.accepted
