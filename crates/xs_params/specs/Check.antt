-- Which settings are refused, and in which order: 'Command words'. In these definitions a field's number may be too large for its type: that too is
-- refused in its place.
use Rattle.std.specs.Prelude.{◌≡◌, ℕ, zero, suc, ◌-◌, ◌*◌, ◌^◌, min, Bool, not, ◌&&◌, ◌||◌, nat_eq, nat_lt, nat_le, is_some, unwrap_or, if◌then◌else◌, Option, Some, None, List, [], ◌∷◌, ◌++◌, length, position}
use Rattle.std.specs.Prelude.{true, false, ◌+◌, ◌<◌, ◌≤◌, ◌↔◌, IsTrue, IfSome, All}
use Rattle.std.specs.Option.{option_and_then}
use Rattle.xs_lists.specs.Fields.{word_at}
use Rattle.xs_lists.specs.First.{first_of}
use Rattle.xs_layout.specs.Geometry.{components_of, narrowest_width, band_count_of, slice_count_of}
use Rattle.xs_layout.specs.declared.Format.{Format}
use Rattle.xs_layout.specs.declared.Format.TheVariants.{Mono, C422, C444}
use Rattle.xs_layout.specs.declared.Shape.{Shape}
use Rattle.xs_layout.specs.declared.Weight.{Weight}
use Rattle.xs_layout.specs.Limits.{least_width, most_width, least_height, most_height, most_area, is_depth, is_precision, IsPrecision, most_across, most_down, most_slices, most_gain, least_chunk, most_chunk, least_share, most_share, header_room, most_stream, least_payload_type, most_payload_type, most_first_timestamp, most_step, most_boxes, most_workers, most_feeders, most_port}
use Rattle.xs_lists.specs.Packing.{AreBytes}
use Rattle.xs_params.specs.Boxes.{AreBoxes}
use Rattle.xs_params.specs.Picture.{IsShape}
use Rattle.xs_params.specs.declared.settings.Settings.{Settings}
use Rattle.xs_params.specs.declared.settings.Setting.{Setting}
use Rattle.xs_params.specs.declared.settings.Field.{Field}
use Rattle.xs_params.specs.declared.settings.Field.TheVariants as field_of

-- a number is not one of low to high
abbrev pub is_outside : ℕ → ℕ → ℕ → Bool
is_outside low high value = nat_lt value low || nat_lt high value

abbrev pub is_c444 : Format → Bool
is_c444 Mono = false
is_c444 C422 = false
is_c444 C444 = true

-- how many bands a picture has under the settings, and how many slices
abbrev pub bands_of_settings : Settings → ℕ
bands_of_settings s = band_count_of s.nlx s.nly (components_of s.shape.format)

abbrev pub slices_of_settings : Settings → ℕ
slices_of_settings s = slice_count_of s.shape.height s.nly s.hsl

-- what is wrong with weights: that there is not one for each band, or the first that is out of range
abbrev pub weights_fault : ℕ → List Weight → Option ℕ
weights_fault bands weights =
    if nat_eq (length weights) bands then position (λ (weight : Weight). nat_lt most_gain weight.gain || nat_le bands weight.priority) weights
    else Some (length weights)

-- whole boxes, one after the other, each of a stated length of 8 or more, after so many last bytes of another box
abbrev pub are_boxes : ℕ → List ℕ → Bool
are_boxes zero [] = true
are_boxes zero (byte ∷ bytes) = nat_le 8 (word_at (byte ∷ bytes) 0) && are_boxes (word_at (byte ∷ bytes) 0 - 1) bytes
are_boxes (suc left) [] = false
are_boxes (suc left) (byte ∷ bytes) = are_boxes left bytes

-- a slice may have so many bytes: its packets are enough, and the length of the codestream has room in its field
abbrev pub is_share : Settings → Bool
is_share s = not (is_outside least_share (most_share s.chunk) s.share) && nat_le (slices_of_settings s * s.share + header_room) most_stream

abbrev pub refused : Field → ℕ → Setting
refused field value = record { field = field; value = value }

-- width, height and depth
abbrev pub shape_refusals : Shape → List (Bool × Setting)
shape_refusals shape =
    (is_outside least_width most_width shape.width, refused field_of.Width shape.width)
    ∷ (is_outside least_height most_height shape.height || nat_lt most_area (shape.width * shape.height), refused field_of.Height shape.height)
    ∷ (not (is_depth shape.depth), refused field_of.Depth shape.depth)
    ∷ []

-- precision, wavelet levels and slices; a slice height of 65536 or more is named as such, though there would be few slices
abbrev pub layout_refusals : Settings → List (Bool × Setting)
layout_refusals s =
    (not (is_precision s.bits), refused field_of.Bits s.bits)
    ∷ (is_outside 1 most_across s.nlx || nat_lt (narrowest_width s.shape.format s.shape.width) (2 ^ s.nlx), refused field_of.Nlx s.nlx)
    ∷ (nat_lt (min most_down s.nlx) s.nly, refused field_of.Nly s.nly)
    ∷ (is_outside 1 (2 ^ 16 - 1) s.hsl || nat_lt most_slices (slices_of_settings s), refused field_of.Hsl s.hsl)
    ∷ []

-- the colour transform and the weights
abbrev pub band_refusals : Settings → List (Bool × Setting)
band_refusals s =
    (s.colour && not (is_c444 s.shape.format), refused field_of.Colour 1)
    ∷ (is_some (option_and_then (weights_fault (bands_of_settings s)) s.weights), refused field_of.Weights (unwrap_or (option_and_then (weights_fault (bands_of_settings s)) s.weights) 0))
    ∷ []

-- packets, timestamps and boxes
abbrev pub packet_refusals : Settings → List (Bool × Setting)
packet_refusals s =
    (is_outside least_chunk most_chunk s.chunk, refused field_of.Chunk s.chunk)
    ∷ (not (is_share s), refused field_of.Share s.share)
    ∷ (is_outside least_payload_type most_payload_type s.payload_type, refused field_of.PayloadType s.payload_type)
    ∷ (nat_lt most_first_timestamp s.first_timestamp, refused field_of.FirstTimestamp s.first_timestamp)
    ∷ (is_outside 1 most_step s.step, refused field_of.Step s.step)
    ∷ (nat_lt most_boxes (length s.boxes) || not (are_boxes 0 s.boxes), refused field_of.Boxes (length s.boxes))
    ∷ []

-- the numbers of workers and feeders, which a decoder has too
abbrev pub thread_refusals : ℕ → ℕ → List (Bool × Setting)
thread_refusals workers feeders =
    (is_outside 1 most_workers workers, refused field_of.Workers workers)
    ∷ (is_outside 1 most_feeders feeders, refused field_of.Feeders feeders)
    ∷ []

-- the port of packets that are written
abbrev pub port_refusals : ℕ → List (Bool × Setting)
port_refusals port = (is_outside 1 most_port port, refused field_of.Port port) ∷ []

-- why settings are refused, in this order
abbrev pub setting_refusals : Settings → List (Bool × Setting)
setting_refusals s =
    shape_refusals s.shape ++ layout_refusals s ++ band_refusals s ++ packet_refusals s ++ thread_refusals s.workers s.feeders ++ port_refusals s.port

-- none of the refusals holds
pub record IsChecked (s : Settings) : Type 0 where
  pub none : first_of (setting_refusals s) ≡ None

-- Settings that are not refused, in plain words

-- one weight for each band, with gains and priorities in range
pub record AreWeights (bands : ℕ) (weights : List Weight) : Type 0 where
  pub one_each : length weights ≡ bands
  pub gains : All (λ (weight : Weight). weight.gain ≤ most_gain) weights
  pub priorities : All (λ (weight : Weight). weight.priority < bands) weights

-- each setting is in its range
pub record AreInRange (s : Settings) : Type 0 where
  pub shape : IsShape s.shape
  pub bits : IsPrecision s.bits
  pub nlx : (1 ≤ s.nlx) × (s.nlx ≤ most_across)
  pub narrow : 2 ^ s.nlx ≤ narrowest_width s.shape.format s.shape.width
  pub nly : s.nly ≤ min most_down s.nlx
  pub hsl : (1 ≤ s.hsl) × (s.hsl < 2 ^ 16)
  pub slices : slices_of_settings s ≤ most_slices
  pub colour : IsTrue s.colour → s.shape.format ≡ C444
  pub weights : IfSome s.weights (AreWeights (bands_of_settings s))
  pub chunk : (least_chunk ≤ s.chunk) × (s.chunk ≤ most_chunk)
  pub share : (least_share ≤ s.share) × (s.share ≤ most_share s.chunk)
  pub stream : slices_of_settings s * s.share + header_room ≤ most_stream
  pub payload_type : (least_payload_type ≤ s.payload_type) × (s.payload_type ≤ most_payload_type)
  pub first_timestamp : s.first_timestamp ≤ most_first_timestamp
  pub step : (1 ≤ s.step) × (s.step ≤ most_step)
  pub few_boxes : length s.boxes ≤ most_boxes
  pub boxes : AreBoxes s.boxes
  pub workers : (1 ≤ s.workers) × (s.workers ≤ most_workers)
  pub feeders : (1 ≤ s.feeders) × (s.feeders ≤ most_feeders)
  pub port : (1 ≤ s.port) × (s.port ≤ most_port)

-- Boxes

-- the test of boxes tells whether there are such boxes
abbrev pub BoxesTold : Type 0
BoxesTold = (bytes : List ℕ) → AreBytes bytes → length bytes ≤ most_boxes → (are_boxes 0 bytes ≡ true) ↔ AreBoxes bytes
