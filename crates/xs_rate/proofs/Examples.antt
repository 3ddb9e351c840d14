-- A black picture of 32 by 4 samples, and the packets of a picture that is split down, by computing.
use Rattle.std.proofs.Common.{◌≡◌, ℕ, List, [], ◌∷◌, map, length, take, replicate, refl}
use Rattle.std.specs.Prelude.{false, Ok, Err}
use Rattle.xs_layout.specs.declared.Format.TheVariants.{Mono}
use Rattle.xs_layout.specs.declared.Quant.TheVariants.{DeadZone}
use Rattle.xs_layout.specs.Weighting.{default_weights_of}
use Rattle.xs_lists.specs.Bits.{bits_of}
use Rattle.xs_params.specs.declared.header.Header.{Header}
use Rattle.xs_params.specs.Picture.{Picture}
use Rattle.xs_params.specs.Geometry.{packet_bands, packets_of, precinct_count}
use Rattle.xs_grammar.specs.Precinct.{Content}
use Rattle.xs_grammar.specs.Sizes.{slice_size}
use Rattle.xs_layout.specs.declared.Candidate.{Candidate}
use Rattle.xs_layout.specs.Candidates.{finest}
use Rattle.xs_rate.specs.Coefficients.{rows_of_picture}
use Rattle.xs_rate.specs.Chosen.{content_at}
use Rattle.xs_rate.specs.Encoding.{encoding_of_rows}
use Rattle.xs_rate.specs.Modes.{least_mode}

abbrev black : Picture
black = record { shape = record { width = 32; height = 4; format = Mono; depth = 8 }; samples = replicate 128 0 }

abbrev grey : ℕ → ℕ → ℕ → ℕ → ℕ → Header
grey width height hsl nlx nly = record {
  lcod = 0;
  shape = record { width = width; height = height; format = Mono; depth = 8 };
  hsl = hsl;
  bw = 20;
  fq = 8;
  colour = false;
  nlx = nlx;
  nly = nly;
  long_heads = false;
  quant = DeadZone;
  signs_apart = false;
  run_mode = 0;
  weights = default_weights_of nlx nly 1;
}

abbrev header : Header
header = grey 32 4 4 1 0

-- its header, which states 215 bytes
abbrev black_header : List ℕ
black_header =
    0xff ∷ 0x10 ∷ 0xff ∷ 0x50 ∷ 0x00 ∷ 0x02 ∷ 0xff ∷ 0x12 ∷ 0x00 ∷ 0x1a ∷ 0x00 ∷ 0x00 ∷ 0x00 ∷ 0xd7 ∷ 0x00 ∷ 0x00 ∷
    0x00 ∷ 0x00 ∷ 0x00 ∷ 0x20 ∷ 0x00 ∷ 0x04 ∷ 0x00 ∷ 0x00 ∷ 0x00 ∷ 0x04 ∷ 0x01 ∷ 0x04 ∷ 0x08 ∷ 0x14 ∷ 0x84 ∷ 0x00 ∷
    0x10 ∷ 0x00 ∷ 0xff ∷ 0x13 ∷ 0x00 ∷ 0x04 ∷ 0x08 ∷ 0x11 ∷ 0xff ∷ 0x14 ∷ 0x00 ∷ 0x06 ∷ 0x00 ∷ 0x00 ∷ 0x00 ∷ 0x01 ∷ []

-- its one slice: in the first line the high band alone has flags, and then both do, with the low band predicted from the line above
abbrev black_slice : List ℕ
black_slice =
    0xff ∷ 0x20 ∷ 0x00 ∷ 0x04 ∷ 0x00 ∷ 0x00 ∷ 0x00 ∷ 0x00 ∷ 0x27 ∷ 0x00 ∷ 0x00 ∷ 0x20 ∷ 0x00 ∷ 0x1a ∷ 0x00 ∷ 0x38 ∷
    0x00 ∷ 0x80 ∷ 0xff ∷ 0xf7 ∷ 0xff ∷ 0xbf ∷ 0xfd ∷ 0xff ∷ 0xe0 ∷ 0xff ∷ 0x00 ∷ 0x00 ∷ 0x00 ∷ 0x00 ∷ 0x00 ∷ 0x0f ∷
    0xf0 ∷ 0x00 ∷ 0x00 ∷ 0x00 ∷ 0x00 ∷ 0x00 ∷ 0xff ∷ 0x00 ∷ 0x00 ∷ 0x00 ∷ 0x00 ∷ 0x00 ∷ 0x0f ∷ 0xf0 ∷ 0x00 ∷ 0x00 ∷
    0x00 ∷ 0x00 ∷ 0x00 ∷ 0x00 ∷ 0x00 ∷ 0x20 ∷ 0x00 ∷ 0x00 ∷ 0xe0 ∷ 0x00 ∷ 0x1a ∷ 0x00 ∷ 0x00 ∷ 0x00 ∷ 0xc0 ∷ 0xff ∷
    0x00 ∷ 0x00 ∷ 0x00 ∷ 0x00 ∷ 0x00 ∷ 0x0f ∷ 0xf0 ∷ 0x00 ∷ 0x00 ∷ 0x00 ∷ 0x00 ∷ 0x00 ∷ 0xff ∷ 0x00 ∷ 0x00 ∷ 0x00 ∷
    0x00 ∷ 0x00 ∷ 0x0f ∷ 0xf0 ∷ 0x00 ∷ 0x00 ∷ 0x00 ∷ 0x00 ∷ 0x00 ∷ 0x00 ∷ 0x00 ∷ 0x20 ∷ 0x00 ∷ 0x00 ∷ 0xe0 ∷ 0x00 ∷
    0x1a ∷ 0x00 ∷ 0x00 ∷ 0x00 ∷ 0xc0 ∷ 0xff ∷ 0x00 ∷ 0x00 ∷ 0x00 ∷ 0x00 ∷ 0x00 ∷ 0x0f ∷ 0xf0 ∷ 0x00 ∷ 0x00 ∷ 0x00 ∷
    0x00 ∷ 0x00 ∷ 0xff ∷ 0x00 ∷ 0x00 ∷ 0x00 ∷ 0x00 ∷ 0x00 ∷ 0x0f ∷ 0xf0 ∷ 0x00 ∷ 0x00 ∷ 0x00 ∷ 0x00 ∷ 0x00 ∷ 0x00 ∷
    0x00 ∷ 0x20 ∷ 0x00 ∷ 0x00 ∷ 0xe0 ∷ 0x00 ∷ 0x1a ∷ 0x00 ∷ 0x00 ∷ 0x00 ∷ 0xc0 ∷ 0xff ∷ 0x00 ∷ 0x00 ∷ 0x00 ∷ 0x00 ∷
    0x00 ∷ 0x0f ∷ 0xf0 ∷ 0x00 ∷ 0x00 ∷ 0x00 ∷ 0x00 ∷ 0x00 ∷ 0xff ∷ 0x00 ∷ 0x00 ∷ 0x00 ∷ 0x00 ∷ 0x00 ∷ 0x0f ∷ 0xf0 ∷
    0x00 ∷ 0x00 ∷ 0x00 ∷ 0x00 ∷ 0x00 ∷ []

-- it is encoded at the finest candidate where the share has room for the slice
black_encoded : encoding_of_rows header (rows_of_picture header black) 165 false ≡ Ok (record { header = black_header; slices = black_slice ∷ [] })
unfolding bits_of
black_encoded = refl

-- and refused where the share has no room for it at the coarsest
black_refused : encoding_of_rows header (rows_of_picture header black) 53 false ≡ Err (record { slice = 0; size = 54; share = 53 })
unfolding bits_of
black_refused = refl

-- The least modes of the same picture, and its sizes at the first candidates

abbrev content_with : Candidate → Content
content_with candidate = content_at header (rows_of_picture header black) candidate

abbrev size_with : Candidate → ℕ
size_with candidate = slice_size header (content_with candidate) (least_mode header (content_with candidate)) 0

first_low : least_mode header (content_with finest) 0 0 ≡ 0
first_low = refl

first_high : least_mode header (content_with finest) 0 1 ≡ 2
first_high = refl

later_low : least_mode header (content_with finest) 1 0 ≡ 3
later_low = refl

later_high : least_mode header (content_with finest) 3 1 ≡ 2
later_high = refl

-- so the slice has 165 bytes, as many at the next candidate, and 156 at the one after it
size_finest : size_with finest ≡ 165
unfolding bits_of
size_finest = refl

size_next : size_with (record { q = 1; r = 1 }) ≡ 165
unfolding bits_of
size_next = refl

size_after : size_with (record { q = 1; r = 0 }) ≡ 156
unfolding bits_of
size_after = refl

-- Two levels across and two down in 17 lines: the last of the precincts has one line of LL, one of the deeper HL, and one of the other HL

abbrev deep_header : Header
deep_header = grey 32 17 5 2 2

deep_precincts : precinct_count deep_header ≡ 5
deep_precincts = refl

last_packets : packets_of deep_header 4
    ≡ record { first_type = 0; types = 1; line = 4 } ∷ record { first_type = 1; types = 1; line = 4 } ∷ record { first_type = 4; types = 1; line = 8 } ∷ []
last_packets = refl

-- a whole precinct has ten
whole_packets : length (packets_of deep_header 3) ≡ 10
whole_packets = refl

-- the levels that are split across only are one packet, with LL and two HL
first_bands : map (packet_bands (grey 32 17 5 3 1)) (take 1 (packets_of (grey 32 17 5 3 1) 0)) ≡ (0 ∷ 1 ∷ 2 ∷ []) ∷ []
first_bands = refl
