-- What is appended part by part.
use Rattle.std.proofs.Common.{◌≡◌, ℕ, ◌+◌, List, ◌++◌, length, ap, ◌∙◌, append_assoc}
use Rattle.xs_pcap.specs.Wrapped.{ethernet_head, ipv4_head, record_head, udp_head, wrapped}
use Rattle.xs_pcap.proofs.Parts.{assoc_5}

pub wrapped_by_parts : (port timestamp : ℕ) (packet out a b c d e : List ℕ) → a ≡ out ++ record_head timestamp (42 + length packet) → b ≡ a ++ ethernet_head → c ≡ b ++ ipv4_head (28 + length packet)
    → d ≡ c ++ udp_head port (8 + length packet) → e ≡ d ++ packet → e ≡ out ++ wrapped port timestamp packet
unfolding wrapped
wrapped_by_parts port timestamp packet out a b c d e p q r s t =
    t ∙ ap (λ l. l ++ packet) (s ∙ ap (λ l. l ++ udp_head port (8 + length packet)) (r ∙ ap (λ l. l ++ ipv4_head (28 + length packet)) (q ∙ ap (λ l. l ++ ethernet_head) p)))
    ∙ assoc_5 (out ++ record_head timestamp (42 + length packet)) ethernet_head (ipv4_head (28 + length packet)) (udp_head port (8 + length packet)) packet
    ∙ append_assoc out (record_head timestamp (42 + length packet)) (ethernet_head ++ (ipv4_head (28 + length packet) ++ (udp_head port (8 + length packet) ++ packet)))
