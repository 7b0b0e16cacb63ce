-- An edge of the control flow, as the checker's code holds it.
-- Assumes nothing.
use Rattle.safety.specs.Rules as rules
use Rattle.flows.specs.declared.Edge.{Edge}

abbrev pub edge_of : Edge → rules.Edge
edge_of e = record { condition = e.condition; outcome = e.outcome; to = e.to.0 }
