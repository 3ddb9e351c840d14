-- A grey picture of 32 by 4 black samples, as a codestream: with predicted counts, with plain ones, and with raw ones.
use Rattle.std.proofs.Common.{◌≡◌, ℕ, ◌-◌, ◌*◌, List, [], ◌∷◌, ◌++◌, length, refl, sym, subst, ◌∙◌, append-nil, replicate, arith}
use Rattle.std.proofs.lemmas.Bool.{false≢true}
use Rattle.std.proofs.Common.{inl, inr}
use Rattle.std.specs.Prelude.{Bool, true, false, nat_eq, if◌then◌else◌, pos, negsuc}
use Rattle.xs_layout.specs.declared.Format.TheVariants.{Mono}
use Rattle.xs_layout.specs.declared.Quant.TheVariants.{DeadZone}
use Rattle.xs_params.specs.declared.header.Header.{Header}
use Rattle.xs_lists.specs.Bits.{bits_of, bits_of_fields, FieldsFit}
use Rattle.xs_lists.specs.Spelling.{SpellsEach, SpellsPadded}
use Rattle.xs_spelling.specs.Counts.{Line}
use Rattle.xs_grammar.specs.Header.{Segment, IsHeader, IsHeaderUnit, pih_code, cdt_code, wgt_code, cap_code, com_code}
use Rattle.xs_params.specs.Accepted.{IsAccepted}
use Rattle.xs_params.specs.Boxes.{AreBoxes}
use Rattle.xs_layout.specs.Geometry.{PacketPlace}
use Rattle.xs_params.specs.Geometry.{packets_of}
use Rattle.xs_grammar.specs.Precinct.{Content, IsPrecinct, SpellsPacket, precinct_fields, coded_line}
use Rattle.xs_grammar.specs.Slice.{IsSlice}
use Rattle.xs_grammar.specs.Codestream.{IsCodestream}
use Rattle.xs_grammar.proofs.Written.{Parts, packet_written}

abbrev pub grey : Bool → ℕ → Header
grey apart lcod = record {
  lcod = lcod;
  shape = record { width = 32; height = 4; format = Mono; depth = 8 };
  hsl = 4;
  bw = 20;
  fq = 8;
  colour = false;
  nlx = 1;
  nly = 0;
  long_heads = false;
  quant = DeadZone;
  signs_apart = apart;
  run_mode = 0;
  weights = record { gain = 0; priority = 0 } ∷ record { gain = 0; priority = 1 } ∷ [];
}

-- each line of LL is -2048, with twelve planes, and each line of HL is 0
abbrev pub black : Content
black = record {
  q = λ _. 0;
  r = λ _. 0;
  count = λ band _ _. if nat_eq band 0 then 12 else 0;
  value = λ band _ _. if nat_eq band 0 then negsuc 2047 else pos 0;
}

abbrev picture_body : Bool → ℕ → List ℕ
picture_body apart lcod = 0 ∷ 0 ∷ 0 ∷ lcod ∷ 0 ∷ 0 ∷ 0 ∷ 0 ∷ 0 ∷ 0x20 ∷ 0 ∷ 4 ∷ 0 ∷ 0 ∷ 0 ∷ 4 ∷ 1 ∷ 4 ∷ 8 ∷ 0x14 ∷ 0x84 ∷ 0 ∷ 0x10 ∷ (if apart then 4 else 0) ∷ []

abbrev header_bytes : Bool → ℕ → List ℕ
header_bytes apart lcod =
    0xff ∷ 0x10 ∷ 0xff ∷ 0x50 ∷ 0 ∷ 2 ∷ 0xff ∷ 0x12 ∷ 0 ∷ 0x1a ∷ picture_body apart lcod
    ++ (0xff ∷ 0x13 ∷ 0 ∷ 4 ∷ 8 ∷ 0x11 ∷ 0xff ∷ 0x14 ∷ 0 ∷ 6 ∷ 0 ∷ 0 ∷ 0 ∷ 1 ∷ [])

abbrev cap : Segment
cap = record { code = cap_code; body = [] }

abbrev picture : Bool → ℕ → Segment
picture apart lcod = record { code = pih_code; body = picture_body apart lcod }

abbrev component : Segment
component = record { code = cdt_code; body = 8 ∷ 0x11 ∷ [] }

abbrev weight : Segment
weight = record { code = wgt_code; body = 0 ∷ 0 ∷ 0 ∷ 1 ∷ [] }

accepted : (apart : Bool) (lcod : ℕ) → IsAccepted (grey apart lcod)
accepted apart lcod = record {
  geometry = record {
    shape = record { width = omega arith; height = omega arith; area = omega arith; depth = inl refl };
    hsl = omega arith;
    nlx = omega arith;
    nly = omega arith;
    slices = omega arith;
    narrow = omega arith;
  };
  bits = (inr refl, refl);
  colour = λ e. absurd (false≢true e);
  run_mode = omega arith;
  weights = refl;
}

header_215 : IsHeader (grey false 215) (header_bytes false 215)
unfolding bits_of
header_215 = record {
  accepted = accepted false 215;
  segments = cap ∷ picture false 215 ∷ component ∷ weight ∷ [];
  joined = refl;
  short = omega arith;
  said = record {
    profile = 0;
    level = 0;
    raw_line = 0;
    picture = picture false 215;
    component = component;
    weight = weight;
    order = inl refl;
    picture_is = record { coded = refl; room = omega arith; spelled = refl };
    component_is = record { coded = refl; room = omega arith; spelled = refl };
    weight_is = record { coded = refl; room = omega arith; spelled = refl };
  };
}

header_232 : IsHeader (grey false 232) (header_bytes false 232)
unfolding bits_of
header_232 = record {
  accepted = accepted false 232;
  segments = cap ∷ picture false 232 ∷ component ∷ weight ∷ [];
  joined = refl;
  short = omega arith;
  said = record {
    profile = 0;
    level = 0;
    raw_line = 0;
    picture = picture false 232;
    component = component;
    weight = weight;
    order = inl refl;
    picture_is = record { coded = refl; room = omega arith; spelled = refl };
    component_is = record { coded = refl; room = omega arith; spelled = refl };
    weight_is = record { coded = refl; room = omega arith; spelled = refl };
  };
}

header_220 : IsHeader (grey false 220) (header_bytes false 220)
unfolding bits_of
header_220 = record {
  accepted = accepted false 220;
  segments = cap ∷ picture false 220 ∷ component ∷ weight ∷ [];
  joined = refl;
  short = omega arith;
  said = record {
    profile = 0;
    level = 0;
    raw_line = 0;
    picture = picture false 220;
    component = component;
    weight = weight;
    order = inl refl;
    picture_is = record { coded = refl; room = omega arith; spelled = refl };
    component_is = record { coded = refl; room = omega arith; spelled = refl };
    weight_is = record { coded = refl; room = omega arith; spelled = refl };
  };
}

header_apart : IsHeader (grey true 215) (header_bytes true 215)
unfolding bits_of
header_apart = record {
  accepted = accepted true 215;
  segments = cap ∷ picture true 215 ∷ component ∷ weight ∷ [];
  joined = refl;
  short = omega arith;
  said = record {
    profile = 0;
    level = 0;
    raw_line = 0;
    picture = picture true 215;
    component = component;
    weight = weight;
    order = inl refl;
    picture_is = record { coded = refl; room = omega arith; spelled = refl };
    component_is = record { coded = refl; room = omega arith; spelled = refl };
    weight_is = record { coded = refl; room = omega arith; spelled = refl };
  };
}

abbrev data_bytes : List ℕ
data_bytes = 0xff ∷ 0 ∷ 0 ∷ 0 ∷ 0 ∷ 0 ∷ 0x0f ∷ 0xf0 ∷ 0 ∷ 0 ∷ 0 ∷ 0 ∷ 0 ∷ 0xff ∷ 0 ∷ 0 ∷ 0 ∷ 0 ∷ 0 ∷ 0x0f ∷ 0xf0 ∷ 0 ∷ 0 ∷ 0 ∷ 0 ∷ 0 ∷ []

abbrev plane_bytes : List ℕ
plane_bytes = 0xf0 ∷ 0 ∷ 0 ∷ 0 ∷ 0 ∷ 0 ∷ 0xf0 ∷ 0 ∷ 0 ∷ 0 ∷ 0 ∷ 0 ∷ 0xf0 ∷ 0 ∷ 0 ∷ 0 ∷ 0 ∷ 0 ∷ 0xf0 ∷ 0 ∷ 0 ∷ 0 ∷ 0 ∷ 0 ∷ []

abbrev count_bytes : List ℕ
count_bytes = 0xff ∷ 0xf7 ∷ 0xff ∷ 0xbf ∷ 0xfd ∷ 0xff ∷ 0xe0 ∷ []

-- What one precinct holds: the modes of its bands, whether its counts are raw, its flags, and the bytes of its header, packet header, flags and counts
record Form : Type 0 where
  mode : ℕ → ℕ
  raw : Bool
  flag : ℕ → ℕ → ℕ
  head : List ℕ
  packet_head : List ℕ
  significance : List ℕ
  counts : List ℕ
  planes : List ℕ
  signs : List ℕ
  apart : Bool

-- predicted, first line: HL has flags, and its one is set
abbrev first : Form
first = record {
  mode = λ band. 2 * band;
  raw = false;
  flag = λ _ _. 1;
  head = 0 ∷ 0 ∷ 0x27 ∷ 0 ∷ 0 ∷ 0x20 ∷ [];
  packet_head = 0 ∷ 0x1a ∷ 0 ∷ 0x38 ∷ 0 ∷ [];
  significance = 0x80 ∷ [];
  counts = count_bytes;
  planes = data_bytes;
  signs = [];
  apart = false;
}

-- predicted, other lines: LL is predicted from above, both have flags, and both are set
abbrev other : Form
other = record {
  mode = λ band. 3 - band;
  raw = false;
  flag = λ _ _. 1;
  head = 0 ∷ 0 ∷ 0x20 ∷ 0 ∷ 0 ∷ 0xe0 ∷ [];
  packet_head = 0 ∷ 0x1a ∷ 0 ∷ 0 ∷ 0 ∷ [];
  significance = 0xc0 ∷ [];
  counts = [];
  planes = data_bytes;
  signs = [];
  apart = false;
}

-- the same two with the signs apart
abbrev apart_first : Form
apart_first = record first { packet_head = 0 ∷ 0x18 ∷ 0 ∷ 0x38 ∷ 2 ∷ []; planes = plane_bytes; signs = 0xff ∷ 0xff ∷ []; apart = true }

abbrev apart_other : Form
apart_other = record other { packet_head = 0 ∷ 0x18 ∷ 0 ∷ 0 ∷ 2 ∷ []; planes = plane_bytes; signs = 0xff ∷ 0xff ∷ []; apart = true }

-- no prediction and no flags
abbrev plain : Form
plain = record {
  mode = λ _. 0;
  raw = false;
  flag = λ _ _. 0;
  head = 0 ∷ 0 ∷ 0x26 ∷ 0 ∷ 0 ∷ 0 ∷ [];
  packet_head = 0 ∷ 0x1a ∷ 0 ∷ 0x38 ∷ 0 ∷ [];
  significance = [];
  counts = count_bytes;
  planes = data_bytes;
  signs = [];
  apart = false;
}

-- raw counts
abbrev bare : Form
bare = record {
  mode = λ _. 0;
  raw = true;
  flag = λ _ _. 0;
  head = 0 ∷ 0 ∷ 0x23 ∷ 0 ∷ 0 ∷ 0 ∷ [];
  packet_head = 0x80 ∷ 0x1a ∷ 0 ∷ 0x20 ∷ 0 ∷ [];
  significance = [];
  counts = 0xcc ∷ 0xcc ∷ 0 ∷ 0 ∷ [];
  planes = data_bytes;
  signs = [];
  apart = false;
}

abbrev packet_bytes : Form → List ℕ
packet_bytes form = form.packet_head ++ (form.significance ++ (form.counts ++ (form.planes ++ form.signs)))

abbrev precinct_bytes : Form → List ℕ
precinct_bytes form = form.head ++ packet_bytes form

abbrev slice_bytes : Form → Form → List ℕ
slice_bytes a b = 0xff ∷ 0x20 ∷ 0 ∷ 4 ∷ 0 ∷ 0 ∷ precinct_bytes a ++ (precinct_bytes b ++ (precinct_bytes b ++ (precinct_bytes b ++ [])))

abbrev stream_bytes : ℕ → Form → Form → List ℕ
stream_bytes lcod a b = header_bytes a.apart lcod ++ (slice_bytes a b ++ (0xff ∷ 0x11 ∷ []))

abbrev line_of : ℕ → Form → ℕ → ℕ → Line
line_of lcod form precinct band = coded_line (grey form.apart lcod) black (form.mode band) band precinct

abbrev FormParts : ℕ → Form → ℕ → Type 0
FormParts lcod form precinct = Parts (grey form.apart lcod) (0 ∷ 1 ∷ []) (line_of lcod form precinct) form.raw form.flag (length form.signs) form.packet_head form.significance form.counts form.planes form.signs

abbrev place_of : ℕ → PacketPlace
place_of precinct = record { first_type = 0; types = 2; line = precinct }

-- the header of a precinct of this form
abbrev Headed : ℕ → Form → Type 0
Headed lcod form = FieldsFit (precinct_fields (grey form.apart lcod) black 0 (length (packet_bytes form)) form.mode)
    × SpellsPadded form.head (bits_of_fields (precinct_fields (grey form.apart lcod) black 0 (length (packet_bytes form)) form.mode))

precinct_is : (lcod : ℕ) (form : Form) (precinct : ℕ) → packets_of (grey form.apart lcod) precinct ≡ place_of precinct ∷ [] → Headed lcod form → FormParts lcod form precinct
    → IsPrecinct (grey form.apart lcod) black precinct (precinct_bytes form)
precinct_is lcod form precinct one headed parts = record {
  head = form.head;
  body = packet_bytes form;
  joined = refl;
  mode = form.mode;
  room = headed.0;
  headed = headed.1;
  filled = (
    packet_bytes form ++ [],
    [],
    sym (append-nil (packet_bytes form ++ []) ∙ append-nil (packet_bytes form)),
    subst (λ places. SpellsEach (SpellsPacket (grey form.apart lcod) black form.mode) places (packet_bytes form ++ [])) (sym one)
        (packet_bytes form, [], refl, packet_written (grey form.apart lcod) (0 ∷ 1 ∷ []) (line_of lcod form precinct) form.raw form.flag (length form.signs) form.packet_head form.significance form.counts form.planes form.signs parts, refl),
  );
}

-- a slice of four precincts
slice_is : (lcod : ℕ) (a b : Form)
    → IsPrecinct (grey a.apart lcod) black 0 (precinct_bytes a) → IsPrecinct (grey a.apart lcod) black 1 (precinct_bytes b) → IsPrecinct (grey a.apart lcod) black 2 (precinct_bytes b) → IsPrecinct (grey a.apart lcod) black 3 (precinct_bytes b)
    → IsSlice (grey a.apart lcod) black 0 (slice_bytes a b)
slice_is lcod a b p0 p1 p2 p3 = record {
  index = omega arith;
  body = precinct_bytes a ++ (precinct_bytes b ++ (precinct_bytes b ++ (precinct_bytes b ++ [])));
  joined = refl;
  spelled = (
    precinct_bytes a,
    precinct_bytes b ++ (precinct_bytes b ++ (precinct_bytes b ++ [])),
    refl,
    p0,
    (precinct_bytes b, precinct_bytes b ++ (precinct_bytes b ++ []), refl, p1, (precinct_bytes b, precinct_bytes b ++ [], refl, p2, (precinct_bytes b, [], refl, p3, refl))),
  );
}

predicted_0 : IsPrecinct (grey false 215) black 0 (precinct_bytes first)
unfolding bits_of
predicted_0 = precinct_is 215 first 0 refl (omega arith, record { begin = (replicate 4 0, refl); size = refl })
    (record { room = omega arith; headed = refl; flagged = record { begin = (replicate 7 0, refl); size = refl }; counted = (replicate 4 0, refl); filled = ([], refl); signed = refl; has_counts = refl; has_data = refl })

predicted_1 : IsPrecinct (grey false 215) black 1 (precinct_bytes other)
unfolding bits_of
predicted_1 = precinct_is 215 other 1 refl (omega arith, record { begin = (replicate 4 0, refl); size = refl })
    (record { room = omega arith; headed = refl; flagged = record { begin = (replicate 6 0, refl); size = refl }; counted = ([], refl); filled = ([], refl); signed = refl; has_counts = refl; has_data = refl })

predicted_2 : IsPrecinct (grey false 215) black 2 (precinct_bytes other)
unfolding bits_of
predicted_2 = precinct_is 215 other 2 refl (omega arith, record { begin = (replicate 4 0, refl); size = refl })
    (record { room = omega arith; headed = refl; flagged = record { begin = (replicate 6 0, refl); size = refl }; counted = ([], refl); filled = ([], refl); signed = refl; has_counts = refl; has_data = refl })

predicted_3 : IsPrecinct (grey false 215) black 3 (precinct_bytes other)
unfolding bits_of
predicted_3 = precinct_is 215 other 3 refl (omega arith, record { begin = (replicate 4 0, refl); size = refl })
    (record { room = omega arith; headed = refl; flagged = record { begin = (replicate 6 0, refl); size = refl }; counted = ([], refl); filled = ([], refl); signed = refl; has_counts = refl; has_data = refl })

pub predicted_stream : IsCodestream (grey false 215) black (stream_bytes 215 first other)
predicted_stream = record {
  header = header_bytes false 215;
  slices = slice_bytes first other;
  joined = refl;
  headed = header_215;
  spelled = (slice_bytes first other, [], refl, slice_is 215 first other predicted_0 predicted_1 predicted_2 predicted_3, refl);
  stated = inr refl;
}

predicted_size : length (stream_bytes 215 first other) ≡ 215
predicted_size = refl

plain_0 : IsPrecinct (grey false 232) black 0 (precinct_bytes plain)
unfolding bits_of
plain_0 = precinct_is 232 plain 0 refl (omega arith, record { begin = (replicate 4 0, refl); size = refl })
    (record { room = omega arith; headed = refl; flagged = record { begin = ([], refl); size = refl }; counted = ([], refl); filled = ([], refl); signed = refl; has_counts = refl; has_data = refl })

plain_1 : IsPrecinct (grey false 232) black 1 (precinct_bytes plain)
unfolding bits_of
plain_1 = precinct_is 232 plain 1 refl (omega arith, record { begin = (replicate 4 0, refl); size = refl })
    (record { room = omega arith; headed = refl; flagged = record { begin = ([], refl); size = refl }; counted = ([], refl); filled = ([], refl); signed = refl; has_counts = refl; has_data = refl })

plain_2 : IsPrecinct (grey false 232) black 2 (precinct_bytes plain)
unfolding bits_of
plain_2 = precinct_is 232 plain 2 refl (omega arith, record { begin = (replicate 4 0, refl); size = refl })
    (record { room = omega arith; headed = refl; flagged = record { begin = ([], refl); size = refl }; counted = ([], refl); filled = ([], refl); signed = refl; has_counts = refl; has_data = refl })

plain_3 : IsPrecinct (grey false 232) black 3 (precinct_bytes plain)
unfolding bits_of
plain_3 = precinct_is 232 plain 3 refl (omega arith, record { begin = (replicate 4 0, refl); size = refl })
    (record { room = omega arith; headed = refl; flagged = record { begin = ([], refl); size = refl }; counted = ([], refl); filled = ([], refl); signed = refl; has_counts = refl; has_data = refl })

pub plain_stream : IsCodestream (grey false 232) black (stream_bytes 232 plain plain)
plain_stream = record {
  header = header_bytes false 232;
  slices = slice_bytes plain plain;
  joined = refl;
  headed = header_232;
  spelled = (slice_bytes plain plain, [], refl, slice_is 232 plain plain plain_0 plain_1 plain_2 plain_3, refl);
  stated = inr refl;
}

plain_size : length (stream_bytes 232 plain plain) ≡ 232
plain_size = refl

raw_0 : IsPrecinct (grey false 220) black 0 (precinct_bytes bare)
unfolding bits_of
raw_0 = precinct_is 220 bare 0 refl (omega arith, record { begin = (replicate 4 0, refl); size = refl })
    (record { room = omega arith; headed = refl; flagged = record { begin = ([], refl); size = refl }; counted = ([], refl); filled = ([], refl); signed = refl; has_counts = refl; has_data = refl })

raw_1 : IsPrecinct (grey false 220) black 1 (precinct_bytes bare)
unfolding bits_of
raw_1 = precinct_is 220 bare 1 refl (omega arith, record { begin = (replicate 4 0, refl); size = refl })
    (record { room = omega arith; headed = refl; flagged = record { begin = ([], refl); size = refl }; counted = ([], refl); filled = ([], refl); signed = refl; has_counts = refl; has_data = refl })

raw_2 : IsPrecinct (grey false 220) black 2 (precinct_bytes bare)
unfolding bits_of
raw_2 = precinct_is 220 bare 2 refl (omega arith, record { begin = (replicate 4 0, refl); size = refl })
    (record { room = omega arith; headed = refl; flagged = record { begin = ([], refl); size = refl }; counted = ([], refl); filled = ([], refl); signed = refl; has_counts = refl; has_data = refl })

raw_3 : IsPrecinct (grey false 220) black 3 (precinct_bytes bare)
unfolding bits_of
raw_3 = precinct_is 220 bare 3 refl (omega arith, record { begin = (replicate 4 0, refl); size = refl })
    (record { room = omega arith; headed = refl; flagged = record { begin = ([], refl); size = refl }; counted = ([], refl); filled = ([], refl); signed = refl; has_counts = refl; has_data = refl })

pub raw_stream : IsCodestream (grey false 220) black (stream_bytes 220 bare bare)
raw_stream = record {
  header = header_bytes false 220;
  slices = slice_bytes bare bare;
  joined = refl;
  headed = header_220;
  spelled = (slice_bytes bare bare, [], refl, slice_is 220 bare bare raw_0 raw_1 raw_2 raw_3, refl);
  stated = inr refl;
}

raw_size : length (stream_bytes 220 bare bare) ≡ 220
raw_size = refl

apart_0 : IsPrecinct (grey true 215) black 0 (precinct_bytes apart_first)
unfolding bits_of
apart_0 = precinct_is 215 apart_first 0 refl (omega arith, record { begin = (replicate 4 0, refl); size = refl })
    (record { room = omega arith; headed = refl; flagged = record { begin = (replicate 7 0, refl); size = refl }; counted = (replicate 4 0, refl); filled = ([], refl); signed = (refl, ([], refl)); has_counts = refl; has_data = refl })

apart_1 : IsPrecinct (grey true 215) black 1 (precinct_bytes apart_other)
unfolding bits_of
apart_1 = precinct_is 215 apart_other 1 refl (omega arith, record { begin = (replicate 4 0, refl); size = refl })
    (record { room = omega arith; headed = refl; flagged = record { begin = (replicate 6 0, refl); size = refl }; counted = ([], refl); filled = ([], refl); signed = (refl, ([], refl)); has_counts = refl; has_data = refl })

apart_2 : IsPrecinct (grey true 215) black 2 (precinct_bytes apart_other)
unfolding bits_of
apart_2 = precinct_is 215 apart_other 2 refl (omega arith, record { begin = (replicate 4 0, refl); size = refl })
    (record { room = omega arith; headed = refl; flagged = record { begin = (replicate 6 0, refl); size = refl }; counted = ([], refl); filled = ([], refl); signed = (refl, ([], refl)); has_counts = refl; has_data = refl })

apart_3 : IsPrecinct (grey true 215) black 3 (precinct_bytes apart_other)
unfolding bits_of
apart_3 = precinct_is 215 apart_other 3 refl (omega arith, record { begin = (replicate 4 0, refl); size = refl })
    (record { room = omega arith; headed = refl; flagged = record { begin = (replicate 6 0, refl); size = refl }; counted = ([], refl); filled = ([], refl); signed = (refl, ([], refl)); has_counts = refl; has_data = refl })

pub apart_stream : IsCodestream (grey true 215) black (stream_bytes 215 apart_first apart_other)
apart_stream = record {
  header = header_bytes true 215;
  slices = slice_bytes apart_first apart_other;
  joined = refl;
  headed = header_apart;
  spelled = (slice_bytes apart_first apart_other, [], refl, slice_is 215 apart_first apart_other apart_0 apart_1 apart_2 apart_3, refl);
  stated = inr refl;
}

apart_size : length (stream_bytes 215 apart_first apart_other) ≡ 215
apart_size = refl

-- The same streams, byte by byte

abbrev pub predicted_bytes : List ℕ
predicted_bytes =
    0xff ∷ 0x10 ∷ 0xff ∷ 0x50 ∷ 0x00 ∷ 0x02 ∷ 0xff ∷ 0x12 ∷ 0x00 ∷ 0x1a ∷ 0x00 ∷ 0x00 ∷ 0x00 ∷ 0xd7 ∷ 0x00 ∷ 0x00 ∷
    0x00 ∷ 0x00 ∷ 0x00 ∷ 0x20 ∷ 0x00 ∷ 0x04 ∷ 0x00 ∷ 0x00 ∷ 0x00 ∷ 0x04 ∷ 0x01 ∷ 0x04 ∷ 0x08 ∷ 0x14 ∷ 0x84 ∷ 0x00 ∷
    0x10 ∷ 0x00 ∷ 0xff ∷ 0x13 ∷ 0x00 ∷ 0x04 ∷ 0x08 ∷ 0x11 ∷ 0xff ∷ 0x14 ∷ 0x00 ∷ 0x06 ∷ 0x00 ∷ 0x00 ∷ 0x00 ∷ 0x01 ∷
    0xff ∷ 0x20 ∷ 0x00 ∷ 0x04 ∷ 0x00 ∷ 0x00 ∷ 0x00 ∷ 0x00 ∷ 0x27 ∷ 0x00 ∷ 0x00 ∷ 0x20 ∷ 0x00 ∷ 0x1a ∷ 0x00 ∷ 0x38 ∷
    0x00 ∷ 0x80 ∷ 0xff ∷ 0xf7 ∷ 0xff ∷ 0xbf ∷ 0xfd ∷ 0xff ∷ 0xe0 ∷ 0xff ∷ 0x00 ∷ 0x00 ∷ 0x00 ∷ 0x00 ∷ 0x00 ∷ 0x0f ∷
    0xf0 ∷ 0x00 ∷ 0x00 ∷ 0x00 ∷ 0x00 ∷ 0x00 ∷ 0xff ∷ 0x00 ∷ 0x00 ∷ 0x00 ∷ 0x00 ∷ 0x00 ∷ 0x0f ∷ 0xf0 ∷ 0x00 ∷ 0x00 ∷
    0x00 ∷ 0x00 ∷ 0x00 ∷ 0x00 ∷ 0x00 ∷ 0x20 ∷ 0x00 ∷ 0x00 ∷ 0xe0 ∷ 0x00 ∷ 0x1a ∷ 0x00 ∷ 0x00 ∷ 0x00 ∷ 0xc0 ∷ 0xff ∷
    0x00 ∷ 0x00 ∷ 0x00 ∷ 0x00 ∷ 0x00 ∷ 0x0f ∷ 0xf0 ∷ 0x00 ∷ 0x00 ∷ 0x00 ∷ 0x00 ∷ 0x00 ∷ 0xff ∷ 0x00 ∷ 0x00 ∷ 0x00 ∷
    0x00 ∷ 0x00 ∷ 0x0f ∷ 0xf0 ∷ 0x00 ∷ 0x00 ∷ 0x00 ∷ 0x00 ∷ 0x00 ∷ 0x00 ∷ 0x00 ∷ 0x20 ∷ 0x00 ∷ 0x00 ∷ 0xe0 ∷ 0x00 ∷
    0x1a ∷ 0x00 ∷ 0x00 ∷ 0x00 ∷ 0xc0 ∷ 0xff ∷ 0x00 ∷ 0x00 ∷ 0x00 ∷ 0x00 ∷ 0x00 ∷ 0x0f ∷ 0xf0 ∷ 0x00 ∷ 0x00 ∷ 0x00 ∷
    0x00 ∷ 0x00 ∷ 0xff ∷ 0x00 ∷ 0x00 ∷ 0x00 ∷ 0x00 ∷ 0x00 ∷ 0x0f ∷ 0xf0 ∷ 0x00 ∷ 0x00 ∷ 0x00 ∷ 0x00 ∷ 0x00 ∷ 0x00 ∷
    0x00 ∷ 0x20 ∷ 0x00 ∷ 0x00 ∷ 0xe0 ∷ 0x00 ∷ 0x1a ∷ 0x00 ∷ 0x00 ∷ 0x00 ∷ 0xc0 ∷ 0xff ∷ 0x00 ∷ 0x00 ∷ 0x00 ∷ 0x00 ∷
    0x00 ∷ 0x0f ∷ 0xf0 ∷ 0x00 ∷ 0x00 ∷ 0x00 ∷ 0x00 ∷ 0x00 ∷ 0xff ∷ 0x00 ∷ 0x00 ∷ 0x00 ∷ 0x00 ∷ 0x00 ∷ 0x0f ∷ 0xf0 ∷
    0x00 ∷ 0x00 ∷ 0x00 ∷ 0x00 ∷ 0x00 ∷ 0xff ∷ 0x11 ∷ []

predicted-literal : stream_bytes 215 first other ≡ predicted_bytes
predicted-literal = refl

abbrev pub plain_bytes : List ℕ
plain_bytes =
    0xff ∷ 0x10 ∷ 0xff ∷ 0x50 ∷ 0x00 ∷ 0x02 ∷ 0xff ∷ 0x12 ∷ 0x00 ∷ 0x1a ∷ 0x00 ∷ 0x00 ∷ 0x00 ∷ 0xe8 ∷ 0x00 ∷ 0x00 ∷
    0x00 ∷ 0x00 ∷ 0x00 ∷ 0x20 ∷ 0x00 ∷ 0x04 ∷ 0x00 ∷ 0x00 ∷ 0x00 ∷ 0x04 ∷ 0x01 ∷ 0x04 ∷ 0x08 ∷ 0x14 ∷ 0x84 ∷ 0x00 ∷
    0x10 ∷ 0x00 ∷ 0xff ∷ 0x13 ∷ 0x00 ∷ 0x04 ∷ 0x08 ∷ 0x11 ∷ 0xff ∷ 0x14 ∷ 0x00 ∷ 0x06 ∷ 0x00 ∷ 0x00 ∷ 0x00 ∷ 0x01 ∷
    0xff ∷ 0x20 ∷ 0x00 ∷ 0x04 ∷ 0x00 ∷ 0x00 ∷ 0x00 ∷ 0x00 ∷ 0x26 ∷ 0x00 ∷ 0x00 ∷ 0x00 ∷ 0x00 ∷ 0x1a ∷ 0x00 ∷ 0x38 ∷
    0x00 ∷ 0xff ∷ 0xf7 ∷ 0xff ∷ 0xbf ∷ 0xfd ∷ 0xff ∷ 0xe0 ∷ 0xff ∷ 0x00 ∷ 0x00 ∷ 0x00 ∷ 0x00 ∷ 0x00 ∷ 0x0f ∷ 0xf0 ∷
    0x00 ∷ 0x00 ∷ 0x00 ∷ 0x00 ∷ 0x00 ∷ 0xff ∷ 0x00 ∷ 0x00 ∷ 0x00 ∷ 0x00 ∷ 0x00 ∷ 0x0f ∷ 0xf0 ∷ 0x00 ∷ 0x00 ∷ 0x00 ∷
    0x00 ∷ 0x00 ∷ 0x00 ∷ 0x00 ∷ 0x26 ∷ 0x00 ∷ 0x00 ∷ 0x00 ∷ 0x00 ∷ 0x1a ∷ 0x00 ∷ 0x38 ∷ 0x00 ∷ 0xff ∷ 0xf7 ∷ 0xff ∷
    0xbf ∷ 0xfd ∷ 0xff ∷ 0xe0 ∷ 0xff ∷ 0x00 ∷ 0x00 ∷ 0x00 ∷ 0x00 ∷ 0x00 ∷ 0x0f ∷ 0xf0 ∷ 0x00 ∷ 0x00 ∷ 0x00 ∷ 0x00 ∷
    0x00 ∷ 0xff ∷ 0x00 ∷ 0x00 ∷ 0x00 ∷ 0x00 ∷ 0x00 ∷ 0x0f ∷ 0xf0 ∷ 0x00 ∷ 0x00 ∷ 0x00 ∷ 0x00 ∷ 0x00 ∷ 0x00 ∷ 0x00 ∷
    0x26 ∷ 0x00 ∷ 0x00 ∷ 0x00 ∷ 0x00 ∷ 0x1a ∷ 0x00 ∷ 0x38 ∷ 0x00 ∷ 0xff ∷ 0xf7 ∷ 0xff ∷ 0xbf ∷ 0xfd ∷ 0xff ∷ 0xe0 ∷
    0xff ∷ 0x00 ∷ 0x00 ∷ 0x00 ∷ 0x00 ∷ 0x00 ∷ 0x0f ∷ 0xf0 ∷ 0x00 ∷ 0x00 ∷ 0x00 ∷ 0x00 ∷ 0x00 ∷ 0xff ∷ 0x00 ∷ 0x00 ∷
    0x00 ∷ 0x00 ∷ 0x00 ∷ 0x0f ∷ 0xf0 ∷ 0x00 ∷ 0x00 ∷ 0x00 ∷ 0x00 ∷ 0x00 ∷ 0x00 ∷ 0x00 ∷ 0x26 ∷ 0x00 ∷ 0x00 ∷ 0x00 ∷
    0x00 ∷ 0x1a ∷ 0x00 ∷ 0x38 ∷ 0x00 ∷ 0xff ∷ 0xf7 ∷ 0xff ∷ 0xbf ∷ 0xfd ∷ 0xff ∷ 0xe0 ∷ 0xff ∷ 0x00 ∷ 0x00 ∷ 0x00 ∷
    0x00 ∷ 0x00 ∷ 0x0f ∷ 0xf0 ∷ 0x00 ∷ 0x00 ∷ 0x00 ∷ 0x00 ∷ 0x00 ∷ 0xff ∷ 0x00 ∷ 0x00 ∷ 0x00 ∷ 0x00 ∷ 0x00 ∷ 0x0f ∷
    0xf0 ∷ 0x00 ∷ 0x00 ∷ 0x00 ∷ 0x00 ∷ 0x00 ∷ 0xff ∷ 0x11 ∷ []

plain-literal : stream_bytes 232 plain plain ≡ plain_bytes
plain-literal = refl

abbrev raw_bytes : List ℕ
raw_bytes =
    0xff ∷ 0x10 ∷ 0xff ∷ 0x50 ∷ 0x00 ∷ 0x02 ∷ 0xff ∷ 0x12 ∷ 0x00 ∷ 0x1a ∷ 0x00 ∷ 0x00 ∷ 0x00 ∷ 0xdc ∷ 0x00 ∷ 0x00 ∷
    0x00 ∷ 0x00 ∷ 0x00 ∷ 0x20 ∷ 0x00 ∷ 0x04 ∷ 0x00 ∷ 0x00 ∷ 0x00 ∷ 0x04 ∷ 0x01 ∷ 0x04 ∷ 0x08 ∷ 0x14 ∷ 0x84 ∷ 0x00 ∷
    0x10 ∷ 0x00 ∷ 0xff ∷ 0x13 ∷ 0x00 ∷ 0x04 ∷ 0x08 ∷ 0x11 ∷ 0xff ∷ 0x14 ∷ 0x00 ∷ 0x06 ∷ 0x00 ∷ 0x00 ∷ 0x00 ∷ 0x01 ∷
    0xff ∷ 0x20 ∷ 0x00 ∷ 0x04 ∷ 0x00 ∷ 0x00 ∷ 0x00 ∷ 0x00 ∷ 0x23 ∷ 0x00 ∷ 0x00 ∷ 0x00 ∷ 0x80 ∷ 0x1a ∷ 0x00 ∷ 0x20 ∷
    0x00 ∷ 0xcc ∷ 0xcc ∷ 0x00 ∷ 0x00 ∷ 0xff ∷ 0x00 ∷ 0x00 ∷ 0x00 ∷ 0x00 ∷ 0x00 ∷ 0x0f ∷ 0xf0 ∷ 0x00 ∷ 0x00 ∷ 0x00 ∷
    0x00 ∷ 0x00 ∷ 0xff ∷ 0x00 ∷ 0x00 ∷ 0x00 ∷ 0x00 ∷ 0x00 ∷ 0x0f ∷ 0xf0 ∷ 0x00 ∷ 0x00 ∷ 0x00 ∷ 0x00 ∷ 0x00 ∷ 0x00 ∷
    0x00 ∷ 0x23 ∷ 0x00 ∷ 0x00 ∷ 0x00 ∷ 0x80 ∷ 0x1a ∷ 0x00 ∷ 0x20 ∷ 0x00 ∷ 0xcc ∷ 0xcc ∷ 0x00 ∷ 0x00 ∷ 0xff ∷ 0x00 ∷
    0x00 ∷ 0x00 ∷ 0x00 ∷ 0x00 ∷ 0x0f ∷ 0xf0 ∷ 0x00 ∷ 0x00 ∷ 0x00 ∷ 0x00 ∷ 0x00 ∷ 0xff ∷ 0x00 ∷ 0x00 ∷ 0x00 ∷ 0x00 ∷
    0x00 ∷ 0x0f ∷ 0xf0 ∷ 0x00 ∷ 0x00 ∷ 0x00 ∷ 0x00 ∷ 0x00 ∷ 0x00 ∷ 0x00 ∷ 0x23 ∷ 0x00 ∷ 0x00 ∷ 0x00 ∷ 0x80 ∷ 0x1a ∷
    0x00 ∷ 0x20 ∷ 0x00 ∷ 0xcc ∷ 0xcc ∷ 0x00 ∷ 0x00 ∷ 0xff ∷ 0x00 ∷ 0x00 ∷ 0x00 ∷ 0x00 ∷ 0x00 ∷ 0x0f ∷ 0xf0 ∷ 0x00 ∷
    0x00 ∷ 0x00 ∷ 0x00 ∷ 0x00 ∷ 0xff ∷ 0x00 ∷ 0x00 ∷ 0x00 ∷ 0x00 ∷ 0x00 ∷ 0x0f ∷ 0xf0 ∷ 0x00 ∷ 0x00 ∷ 0x00 ∷ 0x00 ∷
    0x00 ∷ 0x00 ∷ 0x00 ∷ 0x23 ∷ 0x00 ∷ 0x00 ∷ 0x00 ∷ 0x80 ∷ 0x1a ∷ 0x00 ∷ 0x20 ∷ 0x00 ∷ 0xcc ∷ 0xcc ∷ 0x00 ∷ 0x00 ∷
    0xff ∷ 0x00 ∷ 0x00 ∷ 0x00 ∷ 0x00 ∷ 0x00 ∷ 0x0f ∷ 0xf0 ∷ 0x00 ∷ 0x00 ∷ 0x00 ∷ 0x00 ∷ 0x00 ∷ 0xff ∷ 0x00 ∷ 0x00 ∷
    0x00 ∷ 0x00 ∷ 0x00 ∷ 0x0f ∷ 0xf0 ∷ 0x00 ∷ 0x00 ∷ 0x00 ∷ 0x00 ∷ 0x00 ∷ 0xff ∷ 0x11 ∷ []

raw-literal : stream_bytes 220 bare bare ≡ raw_bytes
raw-literal = refl

-- A header with other segments between, after a box; and a precinct with filler

abbrev comment : Segment
comment = record { code = com_code; body = 0 ∷ 1 ∷ [] }

abbrev capabilities : Segment
capabilities = record { code = cap_code; body = 0xab ∷ 0xcd ∷ [] }

abbrev other_bytes : List ℕ
other_bytes =
    0xff ∷ 0x10 ∷ 0xff ∷ 0x50 ∷ 0 ∷ 4 ∷ 0xab ∷ 0xcd ∷ 0xff ∷ 0x12 ∷ 0 ∷ 0x1a ∷ picture_body false 0
    ++ (0xff ∷ 0x14 ∷ 0 ∷ 6 ∷ 0 ∷ 0 ∷ 0 ∷ 1 ∷ 0xff ∷ 0x15 ∷ 0 ∷ 4 ∷ 0 ∷ 1 ∷ 0xff ∷ 0x13 ∷ 0 ∷ 4 ∷ 8 ∷ 0x11 ∷ [])

header_other : IsHeader (grey false 0) other_bytes
unfolding bits_of
header_other = record {
  accepted = accepted false 0;
  segments = capabilities ∷ picture false 0 ∷ weight ∷ comment ∷ component ∷ [];
  joined = refl;
  short = omega arith;
  said = record {
    profile = 0;
    level = 0;
    raw_line = 0;
    picture = picture false 0;
    component = component;
    weight = weight;
    order = inr refl;
    picture_is = record { coded = refl; room = omega arith; spelled = refl };
    component_is = record { coded = refl; room = omega arith; spelled = refl };
    weight_is = record { coded = refl; room = omega arith; spelled = refl };
  };
}

abbrev box : List ℕ
box = 0 ∷ 0 ∷ 0 ∷ 0x0c ∷ 1 ∷ 2 ∷ 3 ∷ 4 ∷ 5 ∷ 6 ∷ 7 ∷ 8 ∷ []

boxed : IsHeaderUnit (grey false 0) (box ++ other_bytes) 56
boxed = (box, other_bytes, boxes, refl, header_other, refl)
  where
    boxes : AreBoxes box
    boxes = record {
      boxes = box ∷ [];
      whole = (record { size = omega arith; unlike = λ e. absurd (omega (arith, e)); begin = (1 ∷ 2 ∷ 3 ∷ 4 ∷ 5 ∷ 6 ∷ 7 ∷ 8 ∷ [], refl) }, tt);
      joined = refl;
    }

filler : IsPrecinct (grey false 215) black 3 (0 ∷ 0 ∷ 0x23 ∷ 0 ∷ 0 ∷ 0xe5 ∷ packet_bytes other ++ (7 ∷ 8 ∷ 9 ∷ []))
unfolding bits_of predicted_3 precinct_is
filler = record {
  head = 0 ∷ 0 ∷ 0x23 ∷ 0 ∷ 0 ∷ 0xe5 ∷ [];
  body = packet_bytes other ++ (7 ∷ 8 ∷ 9 ∷ []);
  joined = refl;
  mode = other.mode;
  room = omega arith;
  headed = record { begin = (0 ∷ 1 ∷ 0 ∷ 1 ∷ [], refl); size = refl };
  filled = (packet_bytes other ++ [], 7 ∷ 8 ∷ 9 ∷ [], refl, predicted_3.filled.3);
}
