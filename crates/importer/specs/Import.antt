-- S14.9 and S9.17 to S9.19: what import answers, and what it leaves in the buffer.
use Rattle.std.specs.Prelude.{ℕ, ◌+◌, ◌*◌, Bool, not, ◌&&◌, List, [], leb, length, Err, Option, None, Some}
use Rattle.basics.specs.Numbers.{within}
use Rattle.sheet.specs.declared.refusal.Refusal.TheVariants.{BadText, BadGraph, FigureOutside}
use Rattle.sheet.specs.Refusal.{Answer, refused_if, ◌or_else◌, written_if}
use Rattle.sheet.specs.Rules.{in_range}
use Rattle.sheet.specs.Encoding.{record_bytes}
use Rattle.graph_text.specs.Graph.{Graph, graph_of, is_rising}
use Rattle.importer.specs.declared.terms.Terms.{Terms}
use Rattle.importer.specs.Task.{terms_lawful, figures_of, task_from}

-- S14.6: the terms that a caller asks for.
abbrev pub terms : ℕ → ℕ → ℕ → Terms
terms level deadline percentage = record { level = level; deadline = deadline; percentage = percentage }

-- S9.17: the bytes that a buffer needs for a graph with this count.
unfoldable pub room_for : ℕ → ℕ
room_for count = 12 + 4 * count

-- S9.17, of a graph: whether the terms are lawful and the buffer has room.
unfoldable pub is_asked_well : Graph → Terms → ℕ → Bool
is_asked_well g t room = terms_lawful t && leb (room_for g.count) room

-- S9.18: from 1 to 32 nodes, and every predecessor lower than its entry.
unfoldable pub graph_lawful : Graph → Bool
graph_lawful g = within 1 32 g.count && is_rising g

-- S14.9: refusals 17, then 18, then 19, of the graph that a text says, if it says one.
abbrev pub answer_for : Option Graph → Terms → ℕ → Answer
answer_for None t room = Err BadText
answer_for (Some g) t room =
    refused_if (not (is_asked_well g t room)) BadText
    or_else refused_if (not (graph_lawful g)) BadGraph
    or_else refused_if (not (in_range t.level (figures_of g t))) FigureOutside

-- S14.9: the answer to a text, terms, and the length of the buffer.
unfoldable pub import_answer : List ℕ → Terms → ℕ → Answer
import_answer text t room = answer_for (graph_of text) t room

-- The record of a graph, if there is one.
abbrev pub record_for : Option Graph → Terms → List ℕ
record_for None t = []
record_for (Some g) t = record_bytes (task_from g t)

-- S14.9: the record that a text becomes.
unfoldable pub imported_record : List ℕ → Terms → List ℕ
imported_record text t = record_for (graph_of text) t

-- S14.9 and S3.4: the buffer after the call: the record's 12 + 4k bytes and then what stood there; after a refusal, as it was.
unfoldable pub imported : List ℕ → Terms → List ℕ → List ℕ
imported text t buffer = written_if (import_answer text t (length buffer)) (imported_record text t) buffer
