-- What a command asks for: 'Command words'. The numbers of settings may be too large for their fields.
use Rattle.std.specs.Prelude.{◌≡◌, ℕ, Bool, false, ◌<◌, ◌≤◌, ◌^◌, ⊤, if◌then◌else◌, None, List, [], codes, bytes_eq}
use Rattle.xs_layout.specs.Limits.{most_feeders, most_workers}
use Rattle.xs_layout.specs.declared.Format.{Format}
use Rattle.xs_layout.specs.declared.Format.TheVariants.{Mono, C422, C444}
use Rattle.xs_layout.specs.declared.Quant.{Quant}
use Rattle.xs_layout.specs.declared.Quant.TheVariants.{DeadZone, Uniform}
use Rattle.xs_params.specs.declared.settings.Mode.TheVariants.{Slice}
use Rattle.xs_params.specs.declared.settings.Settings.{Settings}
use Rattle.xs_words.specs.Words.{decimal_value, value_of, word_in}
use Rattle.xs_words.specs.declared.command.Form.{Form}
use Rattle.xs_words.specs.declared.command.Form.TheVariants.{Rtp, Xs, Pcap}
use Rattle.xs_words.specs.declared.command.Command.{Command}
use Rattle.xs_words.specs.declared.command.Command.TheVariants.{Encode, Decode, Trial}

-- the number that an option is given, or has by default
abbrev pub given_number : List (List ℕ) → List ℕ → ℕ
given_number words name = decimal_value (value_of words name)

-- the value of an option is this word
abbrev pub is_given : List (List ℕ) → List ℕ → List ℕ → Bool
is_given words name word = bytes_eq (value_of words name) word

abbrev pub format_of : List (List ℕ) → Format
format_of words = if is_given words (codes "--format") (codes "mono") then Mono else if is_given words (codes "--format") (codes "444") then C444 else C422

abbrev pub quant_of : List (List ℕ) → Quant
quant_of words = if is_given words (codes "--quant") (codes "deadzone") then DeadZone else Uniform

abbrev pub form_of : List (List ℕ) → Form
form_of words =
    if is_given words (codes "--form") (codes "xs") then Xs
    else if is_given words (codes "--form") (codes "pcap") then Pcap (given_number words (codes "--port"))
    else Rtp

-- the settings; weights, the unit of packets, boxes and feeders have no words
abbrev pub settings_of : List (List ℕ) → Settings
settings_of words = record {
  shape = record {
    width = given_number words (codes "--width");
    height = given_number words (codes "--height");
    format = format_of words;
    depth = given_number words (codes "--depth");
  };
  bits = given_number words (codes "--bits");
  nlx = given_number words (codes "--nlx");
  nly = given_number words (codes "--nly");
  hsl = given_number words (codes "--slice");
  colour = is_given words (codes "--colour") (codes "1");
  quant = quant_of words;
  signs_apart = is_given words (codes "--signs") (codes "apart");
  weights = None;
  share = given_number words (codes "--share");
  fill = is_given words (codes "--fill") (codes "1");
  chunk = given_number words (codes "--chunk");
  mode = Slice;
  payload_type = given_number words (codes "--pt");
  ssrc = given_number words (codes "--ssrc");
  first_timestamp = given_number words (codes "--time");
  step = given_number words (codes "--step");
  boxes = [];
  workers = given_number words (codes "--workers");
  feeders = 2;
  port = given_number words (codes "--port");
}

-- the settings of a trial: those that have no words of it are the defaults of encoding
abbrev pub trial_settings_of : List (List ℕ) → Settings
trial_settings_of words = record {
  shape = record {
    width = given_number words (codes "--width");
    height = given_number words (codes "--height");
    format = C422;
    depth = 8;
  };
  bits = 20;
  nlx = 5;
  nly = 2;
  hsl = 4;
  colour = false;
  quant = Uniform;
  signs_apart = false;
  weights = None;
  share = given_number words (codes "--share");
  fill = false;
  chunk = 1400;
  mode = Slice;
  payload_type = 96;
  ssrc = 1;
  first_timestamp = 0;
  step = 1500;
  boxes = [];
  workers = given_number words (codes "--workers");
  feeders = given_number words (codes "--feeders");
  port = 5004;
}

-- what words that are a command ask for
abbrev pub command_of : List (List ℕ) → Command
command_of words =
    if bytes_eq (word_in words 0) (codes "encode") then Encode (settings_of words) (form_of words)
    else if bytes_eq (word_in words 0) (codes "decode") then Decode (form_of words) (given_number words (codes "--workers")) (given_number words (codes "--feeders"))
    else Trial (trial_settings_of words) (given_number words (codes "--seed"))

-- what a decoder is asked for is in range, and a trial has short packets and no boxes; of an encoder the settings say so themselves
abbrev pub IsSound : Command → Type 0
IsSound (Encode settings form) = ⊤
IsSound (Decode form workers feeders) = ((1 ≤ workers) × (workers ≤ most_workers)) × (1 ≤ feeders) × (feeders ≤ most_feeders)
IsSound (Trial settings seed) = (settings.boxes ≡ []) × (settings.chunk < 2 ^ 11)
