use Rattle.std.proofs.Common.{vec_items, rules}
use Rattle.forest.specs.declared.kind.Kind.TheVariants.{Integer}
use Rattle.forest.specs.Stores.{item_kind}
use Rattle.capture.proofs.Standing.{found, blank}
use Rattle.capture.proofs.store.CaptureStore.kind.Goals as goal

pub returns-in_err-place : goal.returns-in_err-place
returns-in_err-place c = let h = found item_kind Integer (vec_items c.args.self.now.events) c.args.handle blank c.place.result c.place.ensures in search rules

pub returns-in-Capture : goal.returns-in-Capture
returns-in-Capture c = let h = found item_kind Integer (vec_items c.args.self.now.events) c.args.handle blank c.place.result c.place.ensures in search rules

pub returns-in-Value : goal.returns-in-Value
returns-in-Value c = let h = found item_kind Integer (vec_items c.args.self.now.events) c.args.handle blank c.place.result c.place.ensures in search rules
