-- A code of two bytes is printed as its four digits.
use Rattle.std.proofs.Common.{◌≡◌, ℕ, ◌<◌, ◌/◌, ◌%◌, ◌^◌, ◌-◌, List, [], ◌∷◌, Some, false, slice_index_or, ap, ◌∙◌, arith}
use Rattle.std.specs.Option.{option_map}
use Rattle.std.specs.Fmt.{digits, digits_output, styled_digits_output, padded_integral, format_spec, digit_glyph, ◌++?◌}
use Rattle.std.proofs.lemmas.Fmt.{hex_byte}
use Rattle.xs_notes.specs.Lines.{hex}

-- one byte
styled_byte : (d : _) (s : _) (n : ℕ) → n < 256 → digits_output d ≡ Some (digits 16 false n) → s ≡ format_spec 32 0 4 2 (2 ^ 64 - 1)
    → styled_digits_output d s ≡ Some (digit_glyph false (n / 16) ∷ digit_glyph false (n % 16) ∷ [])
styled_byte d s n small out spec =
    ap (λ t. styled_digits_output d t) spec ∙ ap (option_map (padded_integral (format_spec 32 0 4 2 (2 ^ 64 - 1)) false [])) out ∙ ap Some (hex_byte false n small)

-- the digits of both bytes are those of the code
digits_of_code : (code : ℕ)
    → (digit_glyph false (code / 256 % 256 / 16) ∷ digit_glyph false (code / 256 % 256 % 16) ∷ digit_glyph false (code % 256 / 16) ∷ digit_glyph false (code % 256 % 16) ∷ []) ≡ hex code
digits_of_code code =
    let first : code / 256 % 256 / 16 ≡ code / 0x1000 % 16 = omega arith in
    let second : code / 256 % 256 % 16 ≡ code / 0x100 % 16 = omega arith in
    let third : code % 256 / 16 ≡ code / 0x10 % 16 = omega arith in
    let fourth : code % 256 % 16 ≡ code % 16 = omega arith in
    cc

pub code_text : (high low : _) (s t : _) (bytes : List ℕ) (code : ℕ)
    → bytes ≡ code / 256 % 256 ∷ code % 256 ∷ []
    → digits_output high ≡ Some (digits 16 false (slice_index_or bytes 0 0)) → s ≡ format_spec 32 0 4 2 (2 ^ 64 - 1)
    → digits_output low ≡ Some (digits 16 false (slice_index_or bytes 1 0)) → t ≡ format_spec 32 0 4 2 (2 ^ 64 - 1)
    → styled_digits_output high s ++? styled_digits_output low t ≡ Some (hex code)
code_text high low s t bytes code same out spec out' spec' =
    let h = styled_byte high s (code / 256 % 256) (omega arith) (out ∙ ap (λ bs. Some (digits 16 false (slice_index_or bs 0 0))) same) spec in
    let l = styled_byte low t (code % 256) (omega arith) (out' ∙ ap (λ bs. Some (digits 16 false (slice_index_or bs 1 0))) same) spec' in
    ap (λ o. o ++? styled_digits_output low t) h ∙ ap (λ o. Some (digit_glyph false (code / 256 % 256 / 16) ∷ digit_glyph false (code / 256 % 256 % 16) ∷ []) ++? o) l ∙ ap Some (digits_of_code code)
