-- The options of each command: 'Command words'.
use Rattle.std.specs.Prelude.{ℕ, Option, None, Some, List, [], ◌∷◌, codes}

-- the value of an option is a number, or one of some words
pub data Kind : Type 0 where
  Number : Kind
  Choice : List (List ℕ) → Kind

-- an option: the word that names it, what its value is, and the value that it has where it is not given; one without that is required
pub record Row : Type 0 where
  pub name : List ℕ
  pub kind : Kind
  pub default : Option (List ℕ)

abbrev pub required : List ℕ → Row
required name = record { name = name; kind = Number; default = None }

abbrev pub number : List ℕ → List ℕ → Row
number name default = record { name = name; kind = Number; default = Some default }

abbrev pub choice : List ℕ → List (List ℕ) → List ℕ → Row
choice name words default = record { name = name; kind = Choice words; default = Some default }

-- a slice is so many precincts; `pt` is the RTP payload type, and `time` its first timestamp; packets of a pcap file go to a port
abbrev pub encode_rows : List Row
encode_rows =
    required (codes "--width")
    ∷ required (codes "--height")
    ∷ required (codes "--share")
    ∷ choice (codes "--format") (codes "mono" ∷ codes "422" ∷ codes "444" ∷ []) (codes "422")
    ∷ number (codes "--depth") (codes "8")
    ∷ number (codes "--bits") (codes "20")
    ∷ number (codes "--nlx") (codes "5")
    ∷ number (codes "--nly") (codes "2")
    ∷ number (codes "--slice") (codes "4")
    ∷ choice (codes "--colour") (codes "0" ∷ codes "1" ∷ []) (codes "0")
    ∷ choice (codes "--quant") (codes "deadzone" ∷ codes "uniform" ∷ []) (codes "uniform")
    ∷ choice (codes "--signs") (codes "in" ∷ codes "apart" ∷ []) (codes "in")
    ∷ choice (codes "--fill") (codes "0" ∷ codes "1" ∷ []) (codes "0")
    ∷ number (codes "--chunk") (codes "1400")
    ∷ number (codes "--pt") (codes "96")
    ∷ number (codes "--ssrc") (codes "1")
    ∷ number (codes "--time") (codes "0")
    ∷ number (codes "--step") (codes "1500")
    ∷ choice (codes "--form") (codes "rtp" ∷ codes "xs" ∷ codes "pcap" ∷ []) (codes "rtp")
    ∷ number (codes "--workers") (codes "4")
    ∷ number (codes "--port") (codes "5004")
    ∷ []

-- all else is as the defaults of encoding
abbrev pub trial_rows : List Row
trial_rows =
    number (codes "--seed") (codes "1")
    ∷ number (codes "--width") (codes "256")
    ∷ number (codes "--height") (codes "128")
    ∷ number (codes "--share") (codes "4000")
    ∷ number (codes "--workers") (codes "4")
    ∷ number (codes "--feeders") (codes "2")
    ∷ []

-- port 0 is any
abbrev pub decode_rows : List Row
decode_rows =
    choice (codes "--form") (codes "rtp" ∷ codes "xs" ∷ codes "pcap" ∷ []) (codes "rtp")
    ∷ number (codes "--workers") (codes "4")
    ∷ number (codes "--feeders") (codes "2")
    ∷ number (codes "--port") (codes "0")
    ∷ []
