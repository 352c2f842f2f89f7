-- The names of OCPP 1.6 over WebSocket (OCPP-J 1.6, section 3.1.2).
use Rattle.std.specs.Prelude.{ℕ, Bool, List, codes, Option, Some, None, if◌then◌else◌}
use Rattle.ws_handshake.specs.declared.subprotocol.Offered.{Offered}
use Rattle.ws_handshake.specs.declared.subprotocol.Subprotocol.{Subprotocol}
use Rattle.ws_handshake.specs.declared.subprotocol.Subprotocol.TheVariants.{Named, InCapitals, WithJ}

abbrev pub subprotocol_name : Subprotocol → List ℕ
subprotocol_name Named = codes "ocpp1.6"
subprotocol_name InCapitals = codes "OCPP1.6"
subprotocol_name WithJ = codes "ocpp1.6j"

-- the other names, for a station that is read tolerantly
abbrev pub other_name : Offered → Option Subprotocol
other_name offered = if offered.in_capitals then Some InCapitals else (if offered.with_j then Some WithJ else None)

-- the name that is answered: its own where it is offered
abbrev pub chosen : Bool → Offered → Option Subprotocol
chosen is_tolerant offered = if offered.named then Some Named else (if is_tolerant then other_name offered else None)
