-- Places of bad words, settings that are refused, and what words ask for, by computing.
use Rattle.std.proofs.Common.{◌≡◌, refl, List, ℕ, [], ◌∷◌}
use Rattle.std.specs.Prelude.{codes, None, Some}
use Rattle.xs_params.specs.declared.settings.Field.TheVariants as setting
use Rattle.xs_words.specs.declared.command.Refusal.TheVariants as refusal
use Rattle.xs_words.specs.declared.command.Form.TheVariants.{Rtp, Xs, Pcap}
use Rattle.xs_words.specs.declared.command.Command.TheVariants.{Decode}
use Rattle.xs_words.specs.Refusal.{refusal_of}
use Rattle.xs_words.specs.Words.{bad_place}
use Rattle.xs_words.specs.Command.{command_of}

no_words : bad_place [] ≡ Some 0
no_words = refl

not_a_command : bad_place (codes "--help" ∷ []) ≡ Some 0
not_a_command = refl

twice : bad_place (codes "encode" ∷ codes "--width" ∷ codes "32" ∷ codes "--width" ∷ codes "32" ∷ []) ≡ Some 3
twice = refl

width_alone : bad_place (codes "encode" ∷ codes "--width" ∷ codes "31" ∷ []) ≡ Some 3
width_alone = refl

no_value : bad_place (codes "encode" ∷ codes "--width" ∷ codes "31" ∷ codes "--height" ∷ []) ≡ Some 4
no_value = refl

no_option_of_encode : bad_place (codes "encode" ∷ codes "--feeders" ∷ codes "2" ∷ []) ≡ Some 1
no_option_of_encode = refl

with_equals : bad_place (codes "decode" ∷ codes "--form=xs" ∷ []) ≡ Some 1
with_equals = refl

no_such_choice : bad_place (codes "decode" ∷ codes "--form" ∷ codes "raw" ∷ []) ≡ Some 2
no_such_choice = refl

eleven_digits : bad_place (codes "decode" ∷ codes "--workers" ∷ codes "00000000004" ∷ []) ≡ Some 2
eleven_digits = refl

over_32_bits : bad_place (codes "decode" ∷ codes "--workers" ∷ codes "4294967296" ∷ []) ≡ Some 2
over_32_bits = refl

leading_zeros : bad_place (codes "decode" ∷ codes "--workers" ∷ codes "0000000004" ∷ []) ≡ None
leading_zeros = refl

-- a picture of this width, with more words
abbrev wide : List ℕ → List (List ℕ) → List (List ℕ)
wide width more = codes "encode" ∷ codes "--width" ∷ width ∷ codes "--height" ∷ codes "4" ∷ codes "--share" ∷ codes "400" ∷ more

width_31 : refusal_of (wide (codes "31") []) ≡ Some (refusal.Setting (record { field = setting.Width; value = 31 }))
width_31 = refl

-- five levels want 32 columns of the half-wide component, which has 31
width_62 : refusal_of (wide (codes "62") []) ≡ Some (refusal.Setting (record { field = setting.Nlx; value = 5 }))
width_62 = refl

width_63 : refusal_of (wide (codes "63") []) ≡ None
width_63 = refl

-- one slice, and yet too large for its field
slice_65536 : refusal_of (wide (codes "64") (codes "--slice" ∷ codes "65536" ∷ [])) ≡ Some (refusal.Setting (record { field = setting.Hsl; value = 65536 }))
slice_65536 = refl

depth_264 : refusal_of (wide (codes "64") (codes "--depth" ∷ codes "264" ∷ [])) ≡ Some (refusal.Setting (record { field = setting.Depth; value = 264 }))
depth_264 = refl

bits_19 : refusal_of (wide (codes "64") (codes "--bits" ∷ codes "19" ∷ [])) ≡ Some (refusal.Setting (record { field = setting.Bits; value = 19 }))
bits_19 = refl

-- in the order of the check, not of the words
depth_before_pt : refusal_of (wide (codes "64") (codes "--pt" ∷ codes "352" ∷ codes "--depth" ∷ codes "9" ∷ [])) ≡ Some (refusal.Setting (record { field = setting.Depth; value = 9 }))
depth_before_pt = refl

payload_type_352 : refusal_of (wide (codes "64") (codes "--pt" ∷ codes "352" ∷ [])) ≡ Some (refusal.Setting (record { field = setting.PayloadType; value = 352 }))
payload_type_352 = refl

workers_before_feeders : refusal_of (codes "decode" ∷ codes "--feeders" ∷ codes "9" ∷ codes "--workers" ∷ codes "260" ∷ [])
    ≡ Some (refusal.Setting (record { field = setting.Workers; value = 260 }))
workers_before_feeders = refl

decode_xs : command_of (codes "decode" ∷ codes "--feeders" ∷ codes "3" ∷ codes "--form" ∷ codes "xs" ∷ []) ≡ Decode Xs 4 3
decode_xs = refl

decode_plain : command_of (codes "decode" ∷ []) ≡ Decode Rtp 4 2
decode_plain = refl

decode_pcap : command_of (codes "decode" ∷ codes "--form" ∷ codes "pcap" ∷ []) ≡ Decode (Pcap 0) 4 2
decode_pcap = refl

-- whatever the form is
port_70000 : refusal_of (codes "decode" ∷ codes "--port" ∷ codes "70000" ∷ codes "--form" ∷ codes "xs" ∷ []) ≡ Some (refusal.Setting (record { field = setting.Port; value = 70000 }))
port_70000 = refl

port_0 : refusal_of (wide (codes "64") (codes "--port" ∷ codes "0" ∷ [])) ≡ Some (refusal.Setting (record { field = setting.Port; value = 0 }))
port_0 = refl

feeders_before_port : refusal_of (codes "decode" ∷ codes "--port" ∷ codes "65536" ∷ codes "--feeders" ∷ codes "9" ∷ []) ≡ Some (refusal.Setting (record { field = setting.Feeders; value = 9 }))
feeders_before_port = refl
