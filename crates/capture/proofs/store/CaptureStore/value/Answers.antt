use Rattle.std.proofs.Common.{pos, vec_items, rules}
use Rattle.forest.specs.Stores.{item_value}
use Rattle.capture.proofs.Standing.{reads, blank}
use Rattle.capture.proofs.store.CaptureStore.value.Goals as goal

pub returns : goal.returns
returns c = let r = reads item_value (pos 0) (vec_items c.args.self.now.events) c.args.handle c.index.result.now c.place.result c.place.ensures in search rules

pub returns-in_default : goal.returns-in_default
returns-in_default c = let r = reads item_value (pos 0) (vec_items c.args.self.now.events) c.args.handle blank c.place.result c.place.ensures in search rules

pub returns-in_default-2 : goal.returns-in_default-2
returns-in_default-2 c = let r = reads item_value (pos 0) (vec_items c.args.self.now.events) c.args.handle blank c.place.result c.place.ensures in search rules
